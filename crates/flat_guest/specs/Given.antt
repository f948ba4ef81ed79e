-- What an act is given, and an event.
use Rattle.std.specs.Prelude.{Option, Some, None}
use Rattle.vm_types.specs.declared.ids.ActorId.{ActorId}
use Rattle.vm_types.specs.declared.reply.Reply.{Reply}

-- nothing, where its place answers it; what a host object answers; or that there was no memory for it, which is given to no
-- act today (`IsGiven`)
pub data Given : Type 0 where
  Nothing : Given
  Host : Reply → Given
  Short : Given

-- a host object's reply, or nothing
abbrev pub as_given : Option Reply → Given
as_given None = Nothing
as_given (Some reply) = Host reply

-- who is to act, and what it is given
pub record Event : Type 0 where
  pub actor : ActorId
  pub given : Given
