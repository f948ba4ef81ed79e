-- The creates of a run's script are a chain, and what they wrote stands in the files.
use Rattle.std.proofs.Common.{◌≡◌, ◌≢◌, ◌<◌, ◌+◌, ◌^◌, ◌∙◌, ℕ, true, false, refl, sym, ap, subst, List, [], ◌∷◌, ◌++◌, Option, Some, Ok, inl}
use Rattle.std.specs.Fmt.{decimal}
use Rattle.std.specs.FinMap.{get}
use Rattle.std.proofs.lemmas.Fmt.{decimal_injective}
use Rattle.vm_types.specs.Saved.{Saved}
use Rattle.vm_types.specs.declared.identity.Identity.{Identity}
use Rattle.gate_file.proofs.Inserts.{got_other}
use Rattle.http_stream.specs.Conversation.{new_connection}
use Rattle.http_stream.specs.Stream.{Connection}
use Rattle.http_stream.specs.declared.request.Next.TheVariants as next
use Rattle.api_calls.specs.declared.call.ApiCall.TheVariants as call
use Rattle.api_calls.specs.declared.call.SnapshotCreate.{SnapshotCreate}
use Rattle.api_calls.specs.declared.call.SnapshotType.{SnapshotType}
use Rattle.api_calls.specs.declared.call.SnapshotType.TheVariants as snapshot
use Rattle.api_rules.specs.Table.{decision}
use Rattle.flat_guest.specs.Changes.{reset_guest}
use Rattle.flat_guest.specs.Guest.{unwritten}
use Rattle.guest_devices.specs.declared.device.Device.{Device}
use Rattle.flat_machine.specs.Machine.{Machine, is_off, phase_of}
use Rattle.flat_machine.specs.Outcome.Outcome.{Answered}
use Rattle.flat_machine.specs.Requests.{RequestStep, created, parent_in}
use Rattle.snapshot_chain.specs.Chains.{Follows, IsSaving, Saving, identity_of}
use Rattle.snapshot_chain.proofs.Answered.{some_saving}
use Rattle.snapshot_chain.proofs.Created.{after_is}
use Rattle.restored_chain.specs.Restored.{AnsweredLead, IsAnswered}
use Rattle.run_chain.proofs.Acts.{IsLed, led_ready, led_to}
use Rattle.run_chain.proofs.Heard.{Heard, allows}
use Rattle.run_chain.proofs.Lines.{IsOn}

-- ---- one create

-- What was asked, of the request that was heard, is a create of a chain, and it was answered.
pub record IsMade (it : SnapshotCreate) (m n : Machine) : Type 0 where
  pub saving : Saving
  pub asked_is : saving.asked ≡ it
  pub before_is : saving.before ≡ m
  pub is : IsSaving it.snapshot_type saving
  pub answered : IsAnswered it.snapshot_type saving
  pub leaves : n ≡ saving.after

module _ (it : SnapshotCreate) (number : ℕ) (base : Option Identity) (saved : Saved) (m n : Machine) (led : IsLed m)
    (live : is_off m ≡ false) (on : IsOn true number base saved m) (heard : Heard (call.CreateSnapshot it) m n)
    (decides : decision (phase_of m) m.config m.ids (call.CreateSnapshot it) ≡ Ok (call.CreateSnapshot it)) where
  pub made_create : IsMade it m n
  made_create =
      let asks = allows (call.CreateSnapshot it) m n (call.CreateSnapshot it) heard decides refl in
      let some =
      some_saving m heard.mid on.guest (next.Request heard.request) it heard.kept heard.said (led_ready m led) on.there asks heard.step in
      let own : Saving =
      record { asked = it; before = m; after = heard.mid; guest = reset_guest on.guest; copy = some.0 } in
      let left = after_is it.snapshot_type own some.2 in
      let kept : heard.mid.connection ≡ new_connection = ap (λ (q : Machine). q.connection) left ∙ on.empty in
      record {
        saving = own;
        asked_is = refl;
        before_is = refl;
        is = some.2;
        answered = record {
          type_is = refl;
          between = m;
          led = led_to m led;
          on = live;
          inside = inl refl;
          had = on.guest;
          there = on.there;
          guest_is = refl;
          given = next.Request heard.request;
          said = heard.said;
          allows = asks;
          step =
              subst (λ (l : List Device). RequestStep (Answered l) (next.Request heard.request) m heard.said heard.mid) (sym some.1)
              heard.step;
          is_copy = some.2.is_copy;
        };
        leaves = heard.leaves ∙ ap (λ (c : Connection). record heard.mid { connection = c }) (sym kept);
      }

-- ---- what it leaves

module _ (type : SnapshotType) (s : Saving) (is : IsSaving type s) where
  -- the files of other names
  pub others_stay : (name : List ℕ) → name ≢ s.asked.files.mem_file_path → name ≢ s.asked.files.snapshot_path
      → get s.after.saved name ≡ get s.before.saved name
  others_stay name one two =
      ap (λ (q : Machine). get q.saved name) (after_is type s is)
      ∙ got_other _ s.asked.files.snapshot_path _ name two
      ∙ got_other s.before.saved s.asked.files.mem_file_path _ name one

  -- the machine stands still, with the next number, and it is the base
  pub on_after : (number : ℕ) (base : Option Identity) (saved : Saved) → IsOn true number base saved s.before
      → IsOn true (number + 1) (Some (identity_of s)) s.after.saved s.after
  on_after number base saved on =
      let left : s.after ≡ created s.before s.guest s.asked.files (parent_in s.before s.asked) s.copy = after_is type s is in
      record {
        guest = unwritten s.guest;
        there = ap (λ (q : Machine). q.guest) left;
        stands = ap (λ (q : Machine). q.paused) left ∙ on.stands;
        tracked = ap (λ (q : Machine). q.config.machine.track_dirty_pages) left ∙ on.tracked;
        next_is = ap (λ (q : Machine). q.ids.next) left ∙ ap (λ (k : ℕ). k + 1) on.next_is;
        base_is = ap (λ (q : Machine). q.ids.base) left;
        empty = ap (λ (q : Machine). q.connection) left ∙ on.empty;
        saved_is = refl;
      }

-- ---- the chain with one more

pub leads_on : (first : Saving) (savings : List Saving) (last s : Saving) → AnsweredLead first savings last → IsAnswered snapshot.Diff s
    → Follows last s → AnsweredLead first (savings ++ s ∷ []) s
leads_on first [] last s same is follows =
    (is, subst (λ (x : Saving). Follows x s) (sym same) follows, refl)
leads_on first (other ∷ savings) last s (own, after, rest) is follows = (own, after, leads_on other savings last s rest is follows)

-- ---- names of rounds

abbrev first_of : List ℕ → ℕ
first_of [] = 0
first_of (c ∷ text) = c

abbrev behind : List ℕ → List ℕ
behind [] = []
behind (c ∷ text) = text

-- of two rounds, each letter
pub other_round : (letter i j : ℕ) → i < 2 ^ 64 → j < 2 ^ 64 → i ≢ j → letter ∷ decimal i ≢ letter ∷ decimal j
other_round letter i j small few differ same = differ (decimal_injective i j small few (ap behind same))

-- and of other letters
pub other_letter : (a b : ℕ) (front rest : List ℕ) → a ≢ b → a ∷ front ≢ b ∷ rest
other_letter a b front rest differ same = differ (ap first_of same)
