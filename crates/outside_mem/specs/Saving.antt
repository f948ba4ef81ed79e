-- What files hold after the events that they log, the newest first, and the calls that these are.
use Rattle.std.specs.Prelude.{ℕ, Bool, true, ◌&&◌, is_some, List, [], ◌∷◌, ◌++◌}
use Rattle.std.specs.Option.{unwrap_or}
use Rattle.std.specs.FinMap.{get, insert}
use Rattle.vm_types.specs.Saved.{Saved, nothing_saved, written}
use Rattle.vm_outside.specs.Calls.{FileCall}
use Rattle.outside_mem.specs.declared.file_event.FileEvent.{FileEvent}
use Rattle.outside_mem.specs.declared.file_event.FileEvent.TheVariants.{Made, Wrote, Synced}

abbrev pub content_in : Saved → List ℕ → List ℕ
content_in saved name = unwrap_or (get saved name) []

abbrev pub saved_after : List FileEvent → Saved
saved_after [] = nothing_saved
saved_after (Made name ∷ events) = insert (saved_after events) name []
saved_after (Wrote name at bytes ∷ events) =
    insert (saved_after events) name (written (content_in (saved_after events) name) at bytes)
saved_after (Synced name ∷ events) = saved_after events

abbrev pub calls_of : List FileEvent → List FileCall
calls_of [] = []
calls_of (Made name ∷ events) = calls_of events ++ FileCall.Making name ∷ FileCall.Made name ∷ []
calls_of (Wrote name at bytes ∷ events) = calls_of events ++ FileCall.Writing name at bytes ∷ []
calls_of (Synced name ∷ events) = calls_of events ++ FileCall.Synced name (get (saved_after events) name) ∷ []

-- each write found its file
abbrev pub found_theirs : List FileEvent → Bool
found_theirs [] = true
found_theirs (Made name ∷ events) = found_theirs events
found_theirs (Wrote name at bytes ∷ events) = is_some (get (saved_after events) name) && found_theirs events
found_theirs (Synced name ∷ events) = found_theirs events
