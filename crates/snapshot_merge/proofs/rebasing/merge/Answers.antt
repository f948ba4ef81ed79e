use Rattle.std.proofs.Common.{List, ℕ, ◌∷◌, [], Some, ◌≡◌, ◌∙◌, ap, sym}
use Rattle.std.specs.FinMap.{get}
use Rattle.vm_outside.specs.Known.{Tells}
use Rattle.gate_file.specs.Runs.{RunsPart}
use Rattle.gate_file.proofs.Steps.{on_err}
use Rattle.snapshot_merge.specs.declared.merge.Merge.{Merge}
use Rattle.snapshot_merge.specs.Answering.{AreThere}
use Rattle.gate_file.specs.Stages.{calls_of}
use Rattle.snapshot_merge.specs.Calls.{filling, marking, stages}
use Rattle.snapshot_merge.specs.Plans.{Plan}
use Rattle.snapshot_merge.proofs.Whole.{are_begun, are_synced, begin_done, begin_fails, err_map, name_is, not_begun, not_synced, ok_map, rest_done, rest_fails, there_begun, there_synced}
use Rattle.snapshot_merge.proofs.rebasing.merge.Goals as goal

pub returns-in_err-sync-clause-begun : goal.returns-in_err-sync-clause-begun
returns-in_err-sync-clause-begun g c =
    let known = g.F.Files.known in
    let base = c.args.base.now in
    let part : Tells (known c.args.files.now).health → (plan : Plan) (text : List ℕ) → get (known c.args.files.now).saved base ≡ Some text
    → c.args.rest ≡ plan.merge → AreThere base c.args.diff.now c.args.start.now plan.diff (known c.args.files.now).saved
    → RunsPart base (calls_of base (stages plan.merge plan.diff) text) (known c.args.files.now) (known c.sync.new.self) = λ t plan text there merges are.
    not_synced base c.args.diff.now c.args.start.now plan text _ there are _ (c.in_err-sync.ensures.same t) in
    on_err _ _ part

pub returns-in-Finish-clause-done : goal.returns-in-Finish-clause-done
returns-in-Finish-clause-done g c = ok_map c.mark.result _ _ (λ h t plan text there merges are.
    let synced = c.in_ok-sync.ensures.synced t in
    let base = c.args.base.now in
    let diff = c.args.diff.now in
    let start = c.args.start.now in
    rest_done base diff start plan text _ there are _ synced ((marking 0 ∷ []) ∷ []) (ap (λ (m : Merge). stages m plan.diff) (sym c.in-Finish.is ∙ merges)) _
    (h (c.sync.ensures.called.lasts.still t) text (there_synced base diff start plan text _ there are _ synced)))
    c.mark.ensures.done

pub returns-in-Finish-clause-begun : goal.returns-in-Finish-clause-begun
returns-in-Finish-clause-begun g c = err_map c.mark.result _ _ (λ h t plan text there merges are.
    let synced = c.in_ok-sync.ensures.synced t in
    let base = c.args.base.now in
    let diff = c.args.diff.now in
    let start = c.args.start.now in
    rest_fails base diff start plan text _ there are _ synced ((marking 0 ∷ []) ∷ []) (ap (λ (m : Merge). stages m plan.diff) (sym c.in-Finish.is ∙ merges)) _
    (h (c.sync.ensures.called.lasts.still t) text (there_synced base diff start plan text _ there are _ synced)))
    c.mark.ensures.begun

pub returns-in-GoOn-clause-done : goal.returns-in-GoOn-clause-done
returns-in-GoOn-clause-done g c = ok_map c.fill-in-GoOn.result _ _ (λ h t plan text there merges are.
    let synced = c.in_ok-sync.ensures.synced t in
    let base = c.args.base.now in
    let diff = c.args.diff.now in
    let start = c.args.start.now in
    rest_done base diff start plan text _ there are _ synced (filling c.in-GoOn.slot plan.diff) (ap (λ (m : Merge). stages m plan.diff) (sym c.in-GoOn.is ∙ merges)) _
    (h (c.sync.ensures.called.lasts.still t) plan.diff text (there_synced base diff start plan text _ there are _ synced) (are_synced base diff start plan text _ there are _ synced)))
    c.fill-in-GoOn.ensures.done

pub returns-in-GoOn-clause-begun : goal.returns-in-GoOn-clause-begun
returns-in-GoOn-clause-begun g c = err_map c.fill-in-GoOn.result _ _ (λ h t plan text there merges are.
    let synced = c.in_ok-sync.ensures.synced t in
    let base = c.args.base.now in
    let diff = c.args.diff.now in
    let start = c.args.start.now in
    rest_fails base diff start plan text _ there are _ synced (filling c.in-GoOn.slot plan.diff) (ap (λ (m : Merge). stages m plan.diff) (sym c.in-GoOn.is ∙ merges)) _
    (h (c.sync.ensures.called.lasts.still t) plan.diff text (there_synced base diff start plan text _ there are _ synced) (are_synced base diff start plan text _ there are _ synced)))
    c.fill-in-GoOn.ensures.begun

pub returns-in_err-begin-in-Begin-clause-begun : goal.returns-in_err-begin-in-Begin-clause-begun
returns-in_err-begin-in-Begin-clause-begun g c =
    let known = g.F.Files.known in
    let base = c.args.base.now in
    let diff = c.args.diff.now in
    let start = c.args.start.now in
    let part : Tells (known c.args.files.now).health → (plan : Plan) (text : List ℕ) → get (known c.args.files.now).saved base ≡ Some text
    → c.args.rest ≡ plan.merge → AreThere base diff start plan.diff (known c.args.files.now).saved
    → RunsPart base (calls_of base (stages plan.merge plan.diff) text) (known c.args.files.now) (known c.begin.new.files) = λ t plan text there merges are.
    let synced = c.in_ok-sync.ensures.synced t in
    let named = name_is _ start plan.diff _ are.there (c.deref.ensures.value ∙ c.requires.name) in
    not_begun base diff start plan text _ there are _ synced c.in-Begin.slot _ (sym merges ∙ c.in-Begin.is) named _
    (c.in_err-begin-in-Begin.ensures.begun (c.sync.ensures.called.lasts.still t) text (there_synced base diff start plan text _ there are _ synced)) in
    on_err _ _ part

pub returns-in_ok-begin-in-Begin-clause-done : goal.returns-in_ok-begin-in-Begin-clause-done
returns-in_ok-begin-in-Begin-clause-done g c = ok_map c.fill.result _ _ (λ h t plan text there merges are.
    let base = c.args.base.now in
    let diff = c.args.diff.now in
    let start = c.args.start.now in
    let synced = c.in_ok-sync.ensures.synced t in
    let told = c.sync.ensures.called.lasts.still t in
    let named = name_is _ start plan.diff _ are.there (c.deref.ensures.value ∙ c.requires.name) in
    let begun = c.in_ok-begin-in-Begin.ensures.done told text (there_synced base diff start plan text _ there are _ synced) in
    begin_done base diff start plan text _ there are _ synced c.in-Begin.slot _ (sym merges ∙ c.in-Begin.is) named _ begun _
    (h (c.begin.ensures.called.lasts.still told) plan.diff _ (there_begun base diff start plan text _ there are _ synced c.in-Begin.slot _ (sym merges ∙ c.in-Begin.is) named _ begun)
    (are_begun base diff start plan text _ there are _ synced c.in-Begin.slot _ (sym merges ∙ c.in-Begin.is) named _ begun)))
    c.fill.ensures.done

pub returns-in_ok-begin-in-Begin-clause-begun : goal.returns-in_ok-begin-in-Begin-clause-begun
returns-in_ok-begin-in-Begin-clause-begun g c = err_map c.fill.result _ _ (λ h t plan text there merges are.
    let base = c.args.base.now in
    let diff = c.args.diff.now in
    let start = c.args.start.now in
    let synced = c.in_ok-sync.ensures.synced t in
    let told = c.sync.ensures.called.lasts.still t in
    let named = name_is _ start plan.diff _ are.there (c.deref.ensures.value ∙ c.requires.name) in
    let begun = c.in_ok-begin-in-Begin.ensures.done told text (there_synced base diff start plan text _ there are _ synced) in
    begin_fails base diff start plan text _ there are _ synced c.in-Begin.slot _ (sym merges ∙ c.in-Begin.is) named _ begun _
    (h (c.begin.ensures.called.lasts.still told) plan.diff _ (there_begun base diff start plan text _ there are _ synced c.in-Begin.slot _ (sym merges ∙ c.in-Begin.is) named _ begun)
    (are_begun base diff start plan text _ there are _ synced c.in-Begin.slot _ (sym merges ∙ c.in-Begin.is) named _ begun)))
    c.fill.ensures.begun
