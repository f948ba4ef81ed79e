-- What the test of a walk tests.
use Rattle.vq_split.proofs.Kept.{are_of, inside_of, sound_of_test, test_of_sound, test_of_walking, walking_keeps, walking_of}
use Rattle.vq_split.proofs.law.walk_kept.Goals as goal

pub returns : goal.returns
returns c = record {
  walk = walking_of;
  test = test_of_walking;
  sound = sound_of_test;
  is_sound = test_of_sound;
  inside = inside_of;
  are_inside = are_of;
  left = walking_keeps;
}
