-- What a vsock device goes on with behind what comes from the host.
use Rattle.std.proofs.Common.{◌≡◌, ℕ, ◌^◌, ◌<◌, nat_lt, refl, sym, subst, inl, inr, Bool, true, false, if◌then◌else◌, Option, Some, None, IfSome, List, length}
use Rattle.vm_types.specs.declared.reply.Reply.{Reply}
use Rattle.vm_types.specs.declared.reply.Reply.TheVariants.{Ended, Opened, Received}
use Rattle.dev_core.specs.Inside.{Any}
use Rattle.queue_device.specs.declared.phase.Work.TheVariants as work
use Rattle.queue_device.specs.Acting.{Acting, Comes}
use Rattle.queue_device.specs.Resuming.{Goes, answering_of}
use Rattle.queue_device.specs.Sizes.{IsSmallReply}
use Rattle.vsock_device.specs.declared.connection.Connection.{Connection}
use Rattle.vsock_device.specs.declared.connection.Standing.{Standing}
use Rattle.vsock_device.specs.declared.connection.Standing.TheVariants as standing
use Rattle.vsock_device.specs.declared.data.Vsock.{Vsock}
use Rattle.vsock_device.specs.declared.kind.Stage.{Stage}
use Rattle.vsock_device.specs.declared.kind.Stage.TheVariants as stage
use Rattle.vsock_device.specs.declared.line.Lined.{Lined}
use Rattle.vsock_device.specs.declared.line.Lined.TheVariants.{Asks, More, Other}
use Rattle.vsock_device.specs.Connections.{connection_at, is_live, most_connections}
use Rattle.vsock_device.specs.Data.{dropped}
use Rattle.vsock_device.specs.Host.{asking, closing, ended, happened, heard, heard_by}
use Rattle.vsock_device.specs.Lines.{lined}
use Rattle.vsock_device.specs.Small.{IsSizedData, IsSmallConnection, IsSmallPiece, IsSmallStage, SizedStage, is_sized_work, sized_hand}
use Rattle.vsock_device.specs.Vsock.{vsock}
use Rattle.vsock_device.specs.Work.{hand_of, is_work}
use Rattle.vsock_device.proofs.Small.{asked_small, at_small, dropped_small, ended_small, held_small, line_small, opened_small}
use Rattle.vsock_device.proofs.SmallTexts.{IsSmallLined, lined_small}
use Rattle.vsock_device.proofs.Stages.{no_answer}

module _ (sized : Bool) where
  -- where each reply is small
  abbrev pub Where : Type 0 → Type 0
  Where A = sized ≡ true → A

  abbrev pub at_stage : (s : Stage) → Where (IsSmallStage s) → SizedStage sized
  at_stage s small = record { stage = s; small = small }

  module _ (pages : ℕ) where
    abbrev Fine : Vsock → Type 0
    Fine e = IsSizedData sized e

    abbrev Answers : Acting Vsock Bool → Type 0
    Answers t = Goes vsock (sized_hand sized) (is_sized_work sized) (IsSizedData sized) sized answering_of work.Answer pages Any t

    told_by : (e : Vsock) (received : Bool) → Fine e → Answers (Comes e received)
    told_by e received fine = inr (record { own = e; result = received; fine = fine; is = tt; left = refl })

    answers_if : (test : Bool) (x y : Acting Vsock Bool) → Answers x → Answers y → Answers (if test then x else y)
    answers_if true x y on off = on
    answers_if false x y on off = off

    closing_goes : (host : ℕ) (e : Vsock) → Where (host < 2 ^ 32) → Fine e → Answers (closing host e)
    closing_goes host e low fine =
        inl (record { own = e; stage = at_stage (stage.Close host) low; fine = fine; is = refl; left = refl })

    asking_goes : (line : Lined) (c : Connection) (e : Vsock) → Where (IsSmallLined line) → Where (IsSmallConnection c) → Fine e
        → Answers (asking line c e)
    asking_goes (More so_far) c e low own fine = told_by _ true (λ yes. line_small so_far c e (own yes) (fine yes))
    asking_goes Other c e low own fine =
        closing_goes c.host (dropped c.host e) (λ yes. (own yes).host) (λ yes. dropped_small c.host e (fine yes))
    asking_goes (Asks guest_port rest) c e low own fine =
        told_by _ true (λ yes. asked_small guest_port rest c e (low yes).0 (low yes).1 (own yes) (fine yes))

    heard_at : (s : Standing) (bytes : List ℕ) (c : Connection) (e : Vsock) → Where (IsSmallPiece bytes)
        → Where (IsSmallConnection c) → Fine e → Answers (heard_by s bytes c e)
    heard_at (standing.Line so_far) bytes c e piece own fine =
        asking_goes (lined so_far bytes) c e (λ yes. lined_small so_far bytes (piece yes)) own fine
    heard_at standing.Asked bytes c e piece own fine =
        told_by _ true (λ yes. held_small (Some (record { host = c.host; bytes = bytes })) e (piece yes) (fine yes))
    heard_at standing.Open bytes c e piece own fine =
        told_by _ true (λ yes. held_small (Some (record { host = c.host; bytes = bytes })) e (piece yes) (fine yes))

    heard_goes : (c : Option Connection) (bytes : List ℕ) (e : Vsock) → Where (IsSmallPiece bytes)
        → Where (IfSome c IsSmallConnection) → Fine e → Answers (heard c bytes e)
    heard_goes None bytes e piece own fine = told_by e false fine
    heard_goes (Some c) bytes e piece own fine = heard_at c.standing bytes c e piece own fine

    ended_goes : (c : Option Connection) (e : Vsock) → Where (IfSome c IsSmallConnection) → Fine e → Answers (ended c e)
    ended_goes None e own fine = told_by e false fine
    ended_goes (Some c) e own fine = told_by _ true (λ yes. ended_small c.standing c e (own yes) (fine yes))

    pub answer : (reply : Reply) (e : Vsock) → Where (IsSmallReply reply) → Fine e → Answers (happened reply e)
    answer (Opened host) e low fine =
        answers_if (is_live host e.connections) _ _ (told_by e false fine)
        (answers_if (nat_lt (length e.connections) most_connections) _ _
        (told_by _ true (λ yes. opened_small host e (low yes) (fine yes))) (closing_goes host e low fine))
    answer (Received bytes host) e low fine =
        heard_goes (connection_at host e.connections) bytes e (λ yes. ((low yes).0, (low yes).1)) (λ yes. at_small host e (fine yes)) fine
    answer (Ended host) e low fine = ended_goes (connection_at host e.connections) e (λ yes. at_small host e (fine yes)) fine
    answer reply e low fine = told_by e false fine

    pub answering : (g : Stage) (e : Vsock) (reply : Reply) → Fine e → is_work work.Answer pages g ≡ true
        → Answers ((hand_of g).answering e reply)
    answering g e reply fine is =
        let v = no_answer pages g is in
        subst (λ (s : Stage). Answers ((hand_of s).answering e reply)) (sym v.1) (told_by e true fine)
