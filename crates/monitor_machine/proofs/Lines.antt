-- What a line that brings moving request makes of the machine is what it makes of each flat machine that it is.
use Rattle.std.proofs.Common.{◌≡◌, ◌<◌, ℕ, suc, zero, Bool, true, false, if◌then◌else◌, MatchBool, refl, sym, ap, subst, ◌∙◌, List, [], ◌∷◌, length, slice_get, Option, Some, None, arith}
use Rattle.std.specs.Option.{option_map}
use Rattle.std.proofs.lemmas.Bool.{lt-ltb}
use Rattle.vm_outside.specs.Known.{FilesKnown}
use Rattle.vm_types.specs.declared.ids.ActorId.{ActorId}
use Rattle.vm_types.specs.declared.entry.Entry.{Entry}
use Rattle.vm_types.specs.declared.op.Op.{Op}
use Rattle.vm_types.specs.declared.reply.Reply.{Reply}
use Rattle.vm_types.specs.Fits.{out_fits}
use Rattle.script_text.specs.declared.output.Misfit.{Misfit}
use Rattle.script_text.specs.declared.output.Misfit.TheVariants as misfit
use Rattle.script_text.specs.Output.{misfit_line, register_line}
use Rattle.responses.specs.Output.{console_line}
use Rattle.rv_supervisor.specs.declared.regs.Regs.{Regs}
use Rattle.hart_trace.specs.Shown.{register_of}
use Rattle.hart_trace.specs.States.{Hart}
use Rattle.hart_trace.specs.Asks.{is_host_op}
use Rattle.flat_guest.specs.Body.{want_of}
use Rattle.flat_guest.specs.Given.{Given, as_given}
use Rattle.flat_guest.specs.Guest.{Guest, Wants, is_actor}
use Rattle.flat_guest.specs.Steps.{guest_after, is_given}
use Rattle.flat_machine.specs.Machine.{Machine, console_by, console_of, drained, drained_guest, running, running_by}
use Rattle.flat_machine.specs.Items.{Answers, Misfits, Moves, RegisterLine, Replies, RepliesLine, Shows, ShowsFrom, StepsLine, steps_text}
use Rattle.vm_world.specs.declared.step_error.StepError.{StepError}
use Rattle.vm_world.specs.Refusing.{refusal_of}
use Rattle.guest_pages.specs.Made.{is_ready}
use Rattle.vm_world.specs.Worlds.{IsWorld, MakesEvent, Runs, WorldValue, pages_of, place_in, want_in}
use Rattle.vm_world.proofs.Events.{host_ready, is_there, not_there, wanted}
use Rattle.monitor_machine.specs.Answering.{TakesReply}
use Rattle.monitor_machine.specs.declared.machine.LiveMachine.{LiveMachine}
use Rattle.monitor_machine.specs.State.{IsGuestBy, IsLive, IsMachine}

pub no_guest : (w : Option WorldValue) (g : Option Guest) → IsGuestBy w g → w ≡ None → g ≡ None
no_guest None None is none = refl
no_guest (Some w) None is none = refl
no_guest None (Some g) is none = absurd is
no_guest (Some w) (Some g) is none = cc

pub some_guest : (w : Option WorldValue) (v : WorldValue) (g : Option Guest) → IsGuestBy w g → w ≡ Some v → (h : Guest) × (g ≡ Some h) × IsWorld v h
some_guest w v g is some = there_by g (subst (λ (o : Option WorldValue). IsGuestBy o g) some is)
  where
    there_by : (g : Option Guest) → IsGuestBy (Some v) g → (h : Guest) × (g ≡ Some h) × IsWorld v h
    there_by None here = absurd here
    there_by (Some h) here = (h, refl, here)

-- a guest that stands still runs no more than one that isn't there
still : (live : LiveMachine) (m : Machine) → IsLive live m → live.paused ≡ true → running m ≡ None
still live m own halted =
    subst (λ (b : Bool). running_by m.guest b ≡ None) (sym halted ∙ own.paused_is) refl

goes : (live : LiveMachine) (m : Machine) → IsLive live m → live.paused ≡ false → running m ≡ m.guest
goes live m own moving =
    subst (λ (b : Bool). running_by m.guest b ≡ m.guest) (sym moving ∙ own.paused_is) refl

-- some flat machine that the machine is after the step line
abbrev pub Moved : ActorId → ℕ → Machine → List ℕ → LiveMachine → FilesKnown → Type 0
Moved actor count m text after known =
    (n : Machine) × StepsLine (running m) actor count m text n × IsMachine after known n × (n.connection ≡ m.connection)

step_none : (m : Machine) (actor : ActorId) (count : ℕ) (text : List ℕ) → running m ≡ None
    → text ≡ misfit_line misfit.NotRunning → StepsLine (running m) actor count m text m
step_none m actor count text none writes =
    subst (λ (g : Option Guest). StepsLine g actor count m text m) (sym none) (writes, refl)

pub step_still : (live : LiveMachine) (known : FilesKnown) (m : Machine) (actor : ActorId) (count : ℕ) (text : List ℕ)
    → IsMachine live known m → live.paused ≡ true → text ≡ misfit_line misfit.NotRunning
    → Moved actor count m text live known
step_still live known m actor count text is halted writes =
    (m, step_none m actor count text (still live m is.own halted) writes, is, refl)

pub step_refused : (live : LiveMachine) (known : FilesKnown) (m : Machine) (actor : ActorId) (count : ℕ) (text : List ℕ)
    → IsMachine live known m → live.paused ≡ false → live.guest ≡ None → text ≡ misfit_line misfit.NotRunning
    → Moved actor count m text live known
step_refused live known m actor count text is moving none writes =
    (m, step_none m actor count text (goes live m is.own moving ∙ no_guest live.guest m.guest is.own.guest_is none) writes, is, refl)

with_guest : (live : LiveMachine) (known : FilesKnown) (m : Machine) (w : WorldValue) (g : Option Guest) → IsMachine live known m
    → IsGuestBy (Some w) g → IsMachine (record live { guest = Some w }) known (record m { guest = g })
with_guest live known m w g is guest = record {
  own = record {
    id_is = is.own.id_is;
    ids_is = is.own.ids_is;
    config_is = is.own.config_is;
    metadata_is = is.own.metadata_is;
    guest_is = guest;
    paused_is = is.own.paused_is;
  };
  files = record { saved_is = is.files.saved_is; calls_is = is.files.calls_is };
}

-- the console is shown, and drained
pub drained_is : (w : WorldValue) (g : Guest) → IsWorld w g
    → IsWorld (record w { board = record w.board { console = [] } }) (record g { board = record g.board { console = [] } })
drained_is w g is = record {
  memory_is = is.memory_is;
  marks_are = is.marks_are;
  board_is = λ i. record (is.board_is i) { console = [] };
  ports_are = is.ports_are;
  timer_is = is.timer_is;
  harts_are = record { count = is.harts_are.count; each = is.harts_are.each };
  devices_are = record { count = is.devices_are.count; each = is.devices_are.each; sound = is.devices_are.sound };
}

pub console_shown : (live : LiveMachine) (known : FilesKnown) (m : Machine) (w after : WorldValue) (text : List ℕ) → IsMachine live known m
    → live.guest ≡ Some w → after ≡ record w { board = record w.board { console = [] } } → text ≡ console_line w.board.console
    → (text ≡ console_line (console_of m)) × IsMachine (record live { guest = Some after }) known (drained m)
console_shown live known m w after text is some empties writes =
    let h = some_guest live.guest w m.guest is.own.guest_is some in
    let v : WorldValue = record w { board = record w.board { console = [] } } in (
      writes ∙ (λ i. console_line (h.2.board_is i).console) ∙ sym (ap (λ (g : Option Guest). console_line (console_by g)) h.1),
      with_guest live known m after (drained_guest m.guest) is
          (subst (λ (x : WorldValue). IsGuestBy (Some x) (drained_guest m.guest)) (sym empties)
          (subst (λ (g : Option Guest). IsGuestBy (Some v) (drained_guest g)) (sym h.1) (drained_is w h.0 h.2))),
    )

pub step_no_actor : (live : LiveMachine) (known : FilesKnown) (m : Machine) (world left : WorldValue) (actor : ActorId) (count : ℕ) (text : List ℕ)
    → IsMachine live known m → live.paused ≡ false → live.guest ≡ Some world → left ≡ world
    → ((g : Guest) → IsWorld world g → is_actor g actor ≡ false) → text ≡ misfit_line misfit.NoActor
    → Moved actor count m text (record live { guest = Some left }) known
step_no_actor live known m world left actor count text is moving some same other writes =
    let h = some_guest live.guest world m.guest is.own.guest_is some in
    let none : is_actor h.0 actor ≡ false = other h.0 h.2 in (
      m,
      subst (λ (g : Option Guest). StepsLine g actor count m text m) (sym (goes live m is.own moving ∙ h.1))
          (subst (λ (b : Bool). MatchBool b (Moves h.0 actor count m text m) ((text ≡ misfit_line misfit.NoActor) × (m ≡ m))) (sym none) (writes, refl)),
      with_guest live known m left m.guest is
          (subst (λ (w : WorldValue). IsGuestBy (Some w) m.guest) (sym same) (subst (λ (w : Option WorldValue). IsGuestBy w m.guest) some is.own.guest_is)),
      refl,
    )

pub step_moves : (live : LiveMachine) (known : FilesKnown) (m : Machine) (world left : WorldValue) (actor : ActorId) (count made : ℕ) (off : Bool) (text : List ℕ)
    → IsMachine live known m → live.paused ≡ false → live.guest ≡ Some world
    → ((g : Guest) → IsWorld world g → is_actor g actor ≡ true) → off ≡ left.board.off → text ≡ steps_text count made off
    → Runs world actor count made left → Moved actor count m text (record live { guest = Some left }) known
step_moves live known m world left actor count made off text is moving some here is_off writes runs =
    let g = some_guest live.guest world m.guest is.own.guest_is some in
    let run = runs g.0 g.2 in
    let n : Machine = record m { guest = Some run.1 } in
    let says : text ≡ steps_text count (length run.0) run.1.board.off =
    writes ∙ (λ i. steps_text count (sym run.3 i) (is_off i)) ∙ (λ i. steps_text count (length run.0) (run.4.board_is i).off) in
    let moved : Moves g.0 actor count m text n = record { entries = run.0; end = run.1; made = run.2; writes = says; leaves = refl } in (
      n,
      subst (λ (o : Option Guest). StepsLine o actor count m text n) (sym (goes live m is.own moving ∙ g.1))
          (subst (λ (b : Bool). MatchBool b (Moves g.0 actor count m text n) ((text ≡ misfit_line misfit.NoActor) × (n ≡ m))) (sym (here g.0 g.2)) moved),
      with_guest live known m left (Some run.1) is run.4,
      refl,
    )

-- the events of a world that has more spare pages are those of the world
pub runs_reserved : (world more left : WorldValue) (actor : ActorId) (count made : ℕ) → more ≡ record world { spare = more.spare }
    → Runs more actor count made left → Runs world actor count made left
runs_reserved world more left actor count made same runs = subst (λ (w : WorldValue). Runs w actor count made left) same runs

pub never_reserved : (world more : WorldValue) (actor : ActorId) (op : Op) → more ≡ record world { spare = more.spare }
    → want_in world actor ≡ Some op → want_in more actor ≡ None → ⊥
never_reserved world more actor op same want none =
    let both : Some op ≡ None = sym want ∙ ap (λ (w : WorldValue). want_in w actor) (sym same) ∙ none in cc

-- ---- replies

-- some flat machine that the machine is after the reply line
abbrev pub Replied : ActorId → Given → Machine → List ℕ → LiveMachine → FilesKnown → Type 0
Replied actor given m text after known =
    (n : Machine) × RepliesLine (running m) actor given m text n × IsMachine after known n × (n.connection ≡ m.connection)

reply_none : (m : Machine) (actor : ActorId) (given : Given) (text : List ℕ) → running m ≡ None
    → text ≡ misfit_line misfit.NotRunning → RepliesLine (running m) actor given m text m
reply_none m actor given text none writes =
    subst (λ (g : Option Guest). RepliesLine g actor given m text m) (sym none) (writes, refl)

pub reply_still : (live : LiveMachine) (known : FilesKnown) (m : Machine) (actor : ActorId) (given : Given) (text : List ℕ)
    → IsMachine live known m → live.paused ≡ true → text ≡ misfit_line misfit.NotRunning
    → Replied actor given m text live known
reply_still live known m actor given text is halted writes =
    (m, reply_none m actor given text (still live m is.own halted) writes, is, refl)

pub reply_refused : (live : LiveMachine) (known : FilesKnown) (m : Machine) (actor : ActorId) (given : Given) (text : List ℕ)
    → IsMachine live known m → live.paused ≡ false → live.guest ≡ None → text ≡ misfit_line misfit.NotRunning
    → Replied actor given m text live known
reply_refused live known m actor given text is moving none writes =
    (m, reply_none m actor given text (goes live m is.own moving ∙ no_guest live.guest m.guest is.own.guest_is none) writes, is, refl)

-- what a running guest makes of the reply, which its actor is there for or not
module _ (live : LiveMachine) (known : FilesKnown) (m : Machine) (world left : WorldValue) (actor : ActorId) (given : Given)
    (text : List ℕ) (is : IsMachine live known m) (moving : live.paused ≡ false) (some : live.guest ≡ Some world) where
  own_guest : (h : Guest) × (m.guest ≡ Some h) × IsWorld world h
  own_guest = some_guest live.guest world m.guest is.own.guest_is some

  line : (n : Machine) → MatchBool (is_actor own_guest.0 actor) (Replies own_guest.0 actor given m text n) (Misfits misfit.NoActor m text n)
      → RepliesLine (running m) actor given m text n
  line n goes_so = subst (λ (o : Option Guest). RepliesLine o actor given m text n) (sym (goes live m is.own moving ∙ own_guest.1)) goes_so

  there : (n : Machine) → is_actor own_guest.0 actor ≡ true → Replies own_guest.0 actor given m text n
      → RepliesLine (running m) actor given m text n
  there n here replies =
      line n (subst (λ (b : Bool). MatchBool b (Replies own_guest.0 actor given m text n) (Misfits misfit.NoActor m text n)) (sym here) replies)

  same_guest : left ≡ world → IsMachine (record live { guest = Some left }) known m
  same_guest same =
      with_guest live known m left m.guest is
      (subst (λ (w : WorldValue). IsGuestBy (Some w) m.guest) (sym same)
      (subst (λ (w : Option WorldValue). IsGuestBy w m.guest) some is.own.guest_is))

  pub reply_taken : text ≡ [] → TakesReply None world actor given left
      → Replied actor given m text (record live { guest = Some left }) known
  reply_taken quiet takes =
      let done = takes own_guest.0 own_guest.2 in
      let n : Machine = record m { guest = Some done.end } in
      let answers : Answers own_guest.0 actor given m text n =
      record { entry = done.entry; end = done.end; unstamped = done.unstamped; step = done.step; quiet = quiet; leaves = refl } in
      let fit : MatchBool (is_given done.op given) (Answers own_guest.0 actor given m text n) (Misfits misfit.Unfit m text n) =
      subst (λ (b : Bool). MatchBool b (Answers own_guest.0 actor given m text n) (Misfits misfit.Unfit m text n)) (sym done.fit) answers in
      let host : MatchBool (is_host_op done.op) (MatchBool (is_given done.op given) (Answers own_guest.0 actor given m text n) (Misfits misfit.Unfit m text n)) (Misfits misfit.NotWaiting m text n) =
      subst (λ (b : Bool). MatchBool b (MatchBool (is_given done.op given) (Answers own_guest.0 actor given m text n) (Misfits misfit.Unfit m text n)) (Misfits misfit.NotWaiting m text n)) (sym done.host) fit in
      (n, there n done.there (done.op, done.wants, host), with_guest live known m left (Some done.end) is done.world, refl)

  taken_by : (why : Misfit) → text ≡ misfit_line why → TakesReply (Some why) world actor given left
      → Replied actor given m text (record live { guest = Some left }) known
  taken_by misfit.NotRunning writes takes = absurd takes
  taken_by misfit.NoMachine writes takes = absurd takes
  taken_by misfit.OutsideMemory writes takes = absurd takes
  taken_by misfit.NoActor writes takes =
      let none : is_actor own_guest.0 actor ≡ false = takes.1 own_guest.0 own_guest.2 in (
        m,
        line m (subst (λ (b : Bool). MatchBool b (Replies own_guest.0 actor given m text m) (Misfits misfit.NoActor m text m)) (sym none) (writes, refl)),
        same_guest takes.0,
        refl,
      )
  taken_by misfit.NotWaiting writes takes =
      let busy = takes.1 own_guest.0 own_guest.2 in
      let own : MatchBool (is_host_op busy.op) (MatchBool (is_given busy.op given) (Answers own_guest.0 actor given m text m) (Misfits misfit.Unfit m text m)) (Misfits misfit.NotWaiting m text m) =
      subst (λ (b : Bool). MatchBool b (MatchBool (is_given busy.op given) (Answers own_guest.0 actor given m text m) (Misfits misfit.Unfit m text m)) (Misfits misfit.NotWaiting m text m)) (sym busy.own) (writes, refl) in
      (m, there m busy.there (busy.op, busy.wants, own), same_guest takes.0, refl)
  taken_by misfit.Unfit writes takes =
      let bad = takes.1 own_guest.0 own_guest.2 in
      let unfit : MatchBool (is_given bad.op given) (Answers own_guest.0 actor given m text m) (Misfits misfit.Unfit m text m) =
      subst (λ (b : Bool). MatchBool b (Answers own_guest.0 actor given m text m) (Misfits misfit.Unfit m text m)) (sym bad.unfit) (writes, refl) in
      let host : MatchBool (is_host_op bad.op) (MatchBool (is_given bad.op given) (Answers own_guest.0 actor given m text m) (Misfits misfit.Unfit m text m)) (Misfits misfit.NotWaiting m text m) =
      subst (λ (b : Bool). MatchBool b (MatchBool (is_given bad.op given) (Answers own_guest.0 actor given m text m) (Misfits misfit.Unfit m text m)) (Misfits misfit.NotWaiting m text m)) (sym bad.host) unfit in
      (m, there m bad.there (bad.op, bad.wants, host), same_guest takes.0, refl)

  pub reply_misfits : (why : Misfit) → text ≡ misfit_line why → TakesReply (Some why) world actor given left
      → Replied actor given m text (record live { guest = Some left }) known
  reply_misfits why writes takes = taken_by why writes takes

-- ---- registers

value_at : (o : Option Hart) (number value : ℕ) → Some value ≡ option_map (λ h. register_of h number) o
    → (h : Hart) × (o ≡ Some h) × (value ≡ register_of h number)
value_at None number value is = cc
value_at (Some h) number value is = (h, refl, cc)

none_at : (o : Option Hart) (number : ℕ) → None ≡ option_map (λ h. register_of h number) o → o ≡ None
none_at None number is = refl
none_at (Some h) number is = cc

start_at : (starts : List Regs) (harts : List Hart) (k : ℕ) (h : Hart) → length harts ≡ length starts → slice_get harts k ≡ Some h
    → (k < length starts) × (s : Regs) × (slice_get starts k ≡ Some s)
start_at starts [] k h same is = cc
start_at [] (x ∷ harts) k h same is = absurd (omega (arith, same))
start_at (s ∷ starts) (x ∷ harts) zero h same is = (omega arith, s, refl)
start_at (s ∷ starts) (x ∷ harts) (suc k) h same is =
    let rest = start_at starts harts k h (omega (arith, same)) is in
    (omega (arith, rest.0), rest.1, rest.2)

-- of a hart that is there
pub register_shown : (live : LiveMachine) (known : FilesKnown) (m : Machine) (w : WorldValue) (k number value : ℕ) (text : List ℕ)
    → IsMachine live known m → live.guest ≡ Some w → Some value ≡ option_map (λ h. register_of h number) (slice_get w.harts k)
    → text ≡ register_line value → RegisterLine m.guest k number m text m
register_shown live known m w k number value text is some shows writes =
    let g = some_guest live.guest w m.guest is.own.guest_is some in
    let at = value_at (slice_get w.harts k) number value shows in
    let start = start_at g.0.starts w.harts k at.0 g.2.harts_are.count at.1 in
    let shown : Shows g.0 k number text =
    subst (λ (o : Option Regs). ShowsFrom o (g.0.steps (ActorId.Hart k)) number text) (sym start.2)
    (at.0, g.2.harts_are.each k start.1 at.0 start.2 at.1, writes ∙ ap register_line at.2) in
    subst (λ (o : Option Guest). RegisterLine o k number m text m) (sym g.1)
    (subst (λ (b : Bool). MatchBool b (Shows g.0 k number text × (m ≡ m)) (Misfits misfit.NoActor m text m))
    (sym (lt-ltb k (length g.0.starts) start.0)) (shown, refl))

-- and of one that isn't
pub register_lacks : (live : LiveMachine) (known : FilesKnown) (m : Machine) (w : WorldValue) (k number : ℕ) (text : List ℕ)
    → IsMachine live known m → live.guest ≡ Some w → None ≡ option_map (λ h. register_of h number) (slice_get w.harts k)
    → text ≡ misfit_line misfit.NoActor → RegisterLine m.guest k number m text m
register_lacks live known m w k number text is some lacks writes =
    let g = some_guest live.guest w m.guest is.own.guest_is some in
    let want : want_in w (ActorId.Hart k) ≡ None =
    subst (λ (o : Option Hart). want_of o ≡ None) (sym (none_at (slice_get w.harts k) number lacks)) refl in
    subst (λ (o : Option Guest). RegisterLine o k number m text m) (sym g.1)
    (subst (λ (b : Bool). MatchBool b (Shows g.0 k number text × (m ≡ m)) (Misfits misfit.NoActor m text m))
    (sym (not_there w g.0 (ActorId.Hart k) g.2 want)) (writes, refl))

-- ---- what is given to a world

fits_or : (fit : Bool) → fit ≡ true → (if fit then None else Some StepError.Unfit) ≡ None
fits_or true is = refl
fits_or false is = cc

given_not_refused : (op : Op) (given : Option Reply) → is_given op (as_given given) ≡ true → refusal_of op given ≡ None
given_not_refused (Op.Out act) None is = cc
given_not_refused (Op.Out act) (Some reply) is = fits_or (out_fits act reply) is
given_not_refused op None is = refl
given_not_refused op (Some reply) is = cc

pub world_lacks : (w after : WorldValue) (actor : ActorId) (given : Given) → after ≡ w → want_in w actor ≡ None
    → TakesReply (Some misfit.NoActor) w actor given after
world_lacks w after actor given same none = (same, λ g world. not_there w g actor world none)

pub world_busy : (w after : WorldValue) (actor : ActorId) (op : Op) (given : Given) → after ≡ w → want_in w actor ≡ Some op
    → is_host_op op ≡ false → TakesReply (Some misfit.NotWaiting) w actor given after
world_busy w after actor op given same want own =
    (same, λ g world. record { there = is_there w g actor op world want; op = op; wants = wanted w g actor op world want; own = own })

pub world_unfit : (w after : WorldValue) (actor : ActorId) (op : Op) (given : Given) → after ≡ w → want_in w actor ≡ Some op
    → is_host_op op ≡ true → is_given op given ≡ false → TakesReply (Some misfit.Unfit) w actor given after
world_unfit w after actor op given same want host unfit = (
  same,
  λ g world. record {
    there = is_there w g actor op world want;
    op = op;
    wants = wanted w g actor op world want;
    host = host;
    unfit = unfit;
  },
)

pub world_takes : (w after : WorldValue) (actor : ActorId) (op : Op) (given : Given) (e : Entry) → want_in w actor ≡ Some op
    → is_host_op op ≡ true → is_given op given ≡ true → MakesEvent w (record { actor = actor; given = given }) e after
    → TakesReply None w actor given after
world_takes w after actor op given e want host fit made = λ g world. record {
  there = is_there w g actor op world want;
  op = op;
  wants = wanted w g actor op world want;
  host = host;
  fit = fit;
  entry = e;
  end = guest_after g e;
  unstamped = made.unstamped;
  step = made.step g world;
  world = made.stays g world;
}

-- where it fits the event is made
pub world_never : (w after : WorldValue) (actor : ActorId) (op : Op) (given : Option Reply) (made : Bool) → after ≡ w → want_in w actor ≡ Some op
    → is_host_op op ≡ true → is_given op (as_given given) ≡ true → made ≡ false
    → ((g : Guest) (o : Op) → IsWorld w g → Wants g actor o → refusal_of o given ≡ None
    → is_ready (pages_of w) (place_in w o) ≡ true → made ≡ true)
    → TakesReply (Some misfit.Unfit) w actor (as_given given) after
world_never w after actor op given made same want host fit failed promised = (
  same,
  λ g world.
      let both : true ≡ false = sym (promised g op world (wanted w g actor op world want) (given_not_refused op given fit) (host_ready w op host)) ∙ failed in absurd_bool both,
)
  where
    absurd_bool : {A : Type 0} → true ≡ false → A
    absurd_bool is = absurd (Prim.cc is)
