use Rattle.std.proofs.Common.{rules}
use Rattle.slice_runner.proofs.room.CrewRoom.new.Goals as goal

pub returns : goal.returns
returns g c = λ blanks filled. record {
  work = c.in_ok-work.ensures.room blanks filled;
  posts = c.in_ok-posts.ensures;
  entries = c.in_ok-work.ensures.entries;
  no_passes = search rules;
  for_passes = search rules;
  home = c.in_ok-home.ensures;
  no_resting = search rules;
  no_events = search rules;
  for_events = search rules;
}
