-- The load of a chain is answered, and leaves a machine that is alike with the one that the last create left.
use Rattle.std.proofs.Common.{◌≡◌, ◌<◌, ◌^◌, true, false, List, [], ◌∷◌, Option, is_some, Result, Ok, inl, inr, sym, ap, subst, ◌∙◌}
use Rattle.refusals.specs.declared.refusal.Refusal.{Refusal}
use Rattle.http_stream.specs.Stream.{Connection}
use Rattle.http_stream.specs.Conversation.{arrived}
use Rattle.api_calls.specs.declared.call.SnapshotLoad.{SnapshotLoad}
use Rattle.api_calls.specs.declared.call.SnapshotType.{SnapshotType}
use Rattle.api_calls.specs.declared.call.SnapshotType.TheVariants as snapshot
use Rattle.api_rules.specs.Answers.{no_content}
use Rattle.api_rules.specs.declared.answer.Answer.{Answer}
use Rattle.api_calls.specs.declared.call.ApiCall.{ApiCall}
use Rattle.api_calls.specs.declared.call.ApiCall.TheVariants as call
use Rattle.responses.specs.Responses.{Response}
use Rattle.snap_state.specs.declared.copy.StateCopy.{StateCopy}
use Rattle.flat_guest.specs.Changes.{reset_guest}
use Rattle.flat_guest.specs.Guest.{Guest, unwritten}
use Rattle.flat_guest.specs.Same.{AreAlike}
use Rattle.flat_snapshot.specs.Carried.{carried_guest}
use Rattle.flat_snapshot.specs.Copies.{IsCopyOf}
use Rattle.flat_snapshot.proofs.Copied.{same_copy}
use Rattle.flat_machine.specs.Machine.{Machine, new_machine, off_by}
use Rattle.flat_machine.specs.Ready.{Ready}
use Rattle.flat_machine.specs.Requests.{AnswersBy, LeavesBy, allowed, carried, next_identity, respond}
use Rattle.snapshot_chain.specs.Chains.{DiffsLead, IsInside, IsSaving, Saving, snapshot_of}
use Rattle.flat_machine.specs.Run.{Act}
use Rattle.flat_machine.proofs.Ready.{new_ready, run_ready}
use Rattle.flat_trace.specs.Showing as trace
use Rattle.flat_trace.specs.Showing.{Out}
use Rattle.snapshot_chain.proofs.Answered.{some_saving}
use Rattle.snapshot_chain.proofs.Loaded.{allows_last, loads_last}
use Rattle.snapshot_chain.proofs.On.{inside_on, inside_ready}
use Rattle.alike_runs.specs.Alike.{Alike, as_loaded}
use Rattle.alike_runs.proofs.Configured.{Configured, front_kept, new_configured, run_configured, trace_configured}
use Rattle.alike_runs.proofs.Loaded.{loaded_alike}
use Rattle.restored_chain.specs.Restored.{AnsweredLead, IsAnswered, IsLedTo, IsRestored}
use Rattle.restored_chain.proofs.Merges.{calls_merged}

-- a trace leaves a machine that is ready so
abbrev pub TraceReady : Type 0
TraceReady = (acts : List Act) (m n : Machine) (outs : List Out) → Ready m → trace.Run acts m outs n → Ready n

-- ---- creates that were answered

module _ (trace_ready : TraceReady) where
  led_ready : (m : Machine) → IsLedTo m → Ready m
  led_ready m (id, saved, calls, acts, inl (text, run)) = run_ready acts (new_machine id saved calls) m text (new_ready id saved calls) run
  led_ready m (id, saved, calls, acts, inr (outs, run)) = trace_ready acts (new_machine id saved calls) m outs (new_ready id saved calls) run

  led_configured : (m : Machine) → IsLedTo m → Configured m
  led_configured m (id, saved, calls, acts, inl (text, run)) =
      run_configured acts (new_machine id saved calls) m text (new_configured id saved calls) run
  led_configured m (id, saved, calls, acts, inr (outs, run)) =
      trace_configured acts (new_machine id saved calls) m outs (new_configured id saved calls) run

  inside_configured : (m n : Machine) → IsInside m n → Configured m → Configured n
  inside_configured m n (inl same) own = subst Configured (sym same) own
  inside_configured m n (inr (bytes, outcomes, said, c, front)) own = front_kept outcomes (arrived m.connection bytes) c m n said front own

  module _ (type : SnapshotType) (s : Saving) (is : IsAnswered type s) where
    abbrev Chained : StateCopy → Type 0
    Chained copy =
        IsSaving s.asked.snapshot_type (record { asked = s.asked; before = s.before; after = s.after; guest = reset_guest is.had; copy = copy })
        × AreAlike (unwritten (reset_guest is.had)) (carried_guest copy is.had.memory.bytes)

    ready : Ready s.before
    ready = inside_ready is.between s.before is.inside (led_ready is.between is.led)

    configured : s.before.config.configured ≡ true
    configured =
        inside_configured is.between s.before is.inside (led_configured is.between is.led) (ap (λ (o : Option Guest). is_some o) is.there)

    on : is.had.board.off ≡ false
    on = sym (ap off_by is.there) ∙ inside_on is.between s.before is.inside is.on

    of_had : IsCopyOf s.before.config (reset_guest is.had) s.copy
    of_had = subst (λ (g : Guest). IsCopyOf s.before.config g s.copy) is.guest_is is.is_copy

    chained : Chained s.copy
    chained =
        let some = some_saving s.before s.after is.had is.given s.asked s.copy.devices is.said ready is.there is.allows is.step in
        let same : some.0 ≡ s.copy = same_copy s.before.config (reset_guest is.had) some.0 s.copy some.1 some.2.is_copy of_had in
        subst (λ (copy : StateCopy). Chained copy) same (some.2, some.3 on)

    pub saving_is : IsSaving type s
    saving_is =
        subst (λ (t : SnapshotType). IsSaving t s) is.type_is
        (subst (λ (g : Guest). IsSaving s.asked.snapshot_type (record { asked = s.asked; before = s.before; after = s.after; guest = g; copy = s.copy }))
        (sym is.guest_is) chained.0)

    pub answered_alike : (k : Machine) (load : SnapshotLoad) (c : Connection) → k.ids.lineage < 2 ^ 64
        → Alike [] (record (as_loaded s.after k load) { connection = c }) (record (carried k load (snapshot_of s)) { connection = c })
    answered_alike k load c small =
        let saving = saving_is in
        subst (λ (g : Guest). Alike [] (record (as_loaded s.after k load) { connection = c })
        (record (carried k load (record { identity = next_identity s.before; copy = s.copy; bytes = g.memory.bytes })) { connection = c }))
        (sym is.guest_is)
        (loaded_alike s.before s.after k is.had s.asked load s.copy c ready configured small is.there of_had saving.leaves chained.1)

  pub diffs_lead : (first : Saving) (savings : List Saving) (last : Saving) → AnsweredLead first savings last → DiffsLead first savings last
  diffs_lead first [] last same = same
  diffs_lead first (s ∷ savings) last (is, follows, more) = (saving_is snapshot.Diff s is, follows, diffs_lead s savings last more)

  last_answered : (type : SnapshotType) (first : Saving) (savings : List Saving) (last : Saving) → IsAnswered type first → AnsweredLead first savings last
      → (t : SnapshotType) × IsAnswered t last
  last_answered type first [] last is same = (type, subst (λ (s : Saving). IsAnswered type s) same is)
  last_answered type first (s ∷ savings) last of (is, follows, more) = last_answered snapshot.Diff s savings last is more

  -- ---- the load

  module _ (first : Saving) (savings : List Saving) (last : Saving) (k : Machine) (load : SnapshotLoad) (said : List Response) (p : Machine)
      (is : IsRestored first savings last k load said p) where
    full_is : IsSaving snapshot.Full first
    full_is = saving_is snapshot.Full first is.full

    led : DiffsLead first savings last
    led = diffs_lead first savings last is.leads

    allows : allowed k is.given ≡ Ok (call.LoadSnapshot load)
    allows =
        let all = calls_merged is.name is.files is.base is.left is.merges in
        allows_last first last savings is.base is.files full_is led is.few is.base_is is.files_are all.0 all.2 k is.given load
        (is.memory ∙ all.1) is.state is.asks

    answer_is : (answer : Answer) → AnswersBy k (Ok (call.LoadSnapshot load)) answer → answer ≡ no_content
    answer_is answer (told, tells, same) = same

    pub said_is : said ≡ respond is.given no_content
    said_is =
        let responds = is.step.0 in
        responds.2
        ∙ ap (respond is.given)
        (answer_is responds.0 (subst (λ (r : Result ApiCall Refusal). AnswersBy k r responds.0) allows responds.1))

    pub carried_is : p ≡ carried k load (snapshot_of last)
    carried_is =
        let all = calls_merged is.name is.files is.base is.left is.merges in
        let leaves = subst (λ (r : Result ApiCall Refusal). LeavesBy k r is.kept p) allows is.step.1 in
        loads_last first last savings is.base is.files full_is led is.few is.base_is is.files_are all.0 all.2 k p load
        (is.memory ∙ all.1) is.state leaves.1

    pub restored_alike : (c : Connection) → Alike [] (record (as_loaded last.after k load) { connection = c }) (record p { connection = c })
    restored_alike c =
        let at_last = last_answered snapshot.Full first savings last is.full is.leads in
        subst (λ (q : Machine). Alike [] (record (as_loaded last.after k load) { connection = c }) (record q { connection = c })) (sym carried_is)
        (answered_alike at_last.0 last at_last.1 k load c is.lineage)
