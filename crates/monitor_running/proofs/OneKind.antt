-- One kind of object, asked or not.
use Rattle.std.proofs.Common.{◌≡◌, ℕ, Bool, true, false, MatchBool, refl, sym, ◌∙◌, subst, Option, Some, None}
use Rattle.vm_types.specs.Causes.{Rose}
use Rattle.vm_types.specs.declared.ids.ActorId.{ActorId}
use Rattle.vm_types.specs.declared.op.Op.{Op}
use Rattle.vm_types.specs.declared.op.OutOp.{OutOp}
use Rattle.vm_types.specs.declared.reply.Reply.{Reply}
use Rattle.vm_outside.specs.Known.{Health, Lasts, Tells}
use Rattle.vm_outside.proofs.Passing.{lasts_more, lasts_same}
use Rattle.vm_host.specs.Devices.{IsOf}
use Rattle.vm_host.specs.declared.attached.Attached.{Attached}
use Rattle.vm_config.specs.declared.config.Config.{Config}
use Rattle.flat_guest.specs.Guest.{Guest}
use Rattle.monitor_machine.specs.Objects.{AreNamedBy, Asks, Calls, Named, ObjectKind, Replies, Rests, Uncalled}
use Rattle.monitor_running.proofs.KindLaws.{KindLaw}

-- an actor that is no device
abbrev pub IsOther : ActorId → Type 0
IsOther (ActorId.Device k) = ⊥
IsOther actor = Unit {0}

module _ {K : Type 0} (kind : ObjectKind K) (law : KindLaw kind) where
  -- ---- it is asked nothing

  pub rests_same : (known : K) → Rests kind known known
  rests_same known = record {
    lasts = lasts_same (kind.health known);
    kept = refl;
    same = λ tells. law.none known;
  }

  pub rests_of : (old new : K) → new ≡ old → Rests kind old new
  rests_of old new same = subst (λ (now : K). Rests kind old now) (sym same) (rests_same old)

  pub rests_more : (a b c : K) → Rests kind a b → Rests kind b c → Rests kind a c
  rests_more a b c first behind = record {
    lasts = lasts_more (kind.health a) (kind.health b) (kind.health c) first.lasts behind.lasts;
    kept = behind.kept ∙ first.kept;
    same = λ tells. law.more a b c (first.same tells) (behind.same (first.lasts.still tells));
  }

  -- it is not called
  pub rests_uncalled : (a b : K) → Rests kind a b → Uncalled kind a b
  rests_uncalled a b rests = record {
    lasts = rests.lasts;
    kept = rests.kept;
    beside = λ tells. law.beside a b (rests.same tells);
  }

  -- ---- and then is asked

  replies_later : (k : ℕ) (act : OutOp) (reply : Reply) (a b c : K) → Rests kind a b → Replies kind k act reply b c
      → Replies kind k act reply a c
  replies_later k act reply a b c rests replies = record {
    lasts = lasts_more (kind.health a) (kind.health b) (kind.health c) rests.lasts replies.lasts;
    failed = λ is. subst (λ (n : ℕ). Rose n (kind.health c).faults) rests.kept (replies.failed is);
    kept = λ not. replies.kept not ∙ rests.kept;
    held = λ tells. law.later k act reply a b c (rests.same tells) (replies.held (rests.lasts.still tells));
  }

  either_later : (call : Bool) (k : ℕ) (act : OutOp) (reply : Reply) (a b c : K) → Rests kind a b
      → MatchBool call (Replies kind k act reply b c) (Rests kind b c) → MatchBool call (Replies kind k act reply a c) (Rests kind a c)
  either_later true k act reply a b c rests then = replies_later k act reply a b c rests then
  either_later false k act reply a b c rests then = rests_more a b c rests then

  calls_later : (actor : ActorId) (act : OutOp) (reply : Reply) (a b c : K) → Rests kind a b → Calls kind actor act reply b c
      → Calls kind actor act reply a c
  calls_later (ActorId.Device k) act reply a b c rests then = either_later (kind.is_call act) k act reply a b c rests then
  calls_later actor act reply a b c rests then = rests_more a b c rests then

  pub asks_later : (op : Op) (actor : ActorId) (reply : Reply) (a b c : K) → Rests kind a b → Asks kind op actor reply b c
      → Asks kind op actor reply a c
  asks_later (Op.Out act) actor reply a b c rests then = calls_later actor act reply a b c rests then
  asks_later op actor reply a b c rests then = rests_more a b c rests then

  -- an actor that is no device asks it nothing
  calls_none : (actor : ActorId) (act : OutOp) (reply : Reply) (known : K) → IsOther actor → Calls kind actor act reply known known
  calls_none ActorId.Timer act reply known other = rests_same known
  calls_none (ActorId.Hart k) act reply known other = rests_same known
  calls_none (ActorId.Device k) act reply known other = absurd other

  pub asks_none : (op : Op) (actor : ActorId) (reply : Reply) (known : K) → IsOther actor → Asks kind op actor reply known known
  asks_none (Op.Out act) actor reply known other = calls_none actor act reply known other
  asks_none op actor reply known other = rests_same known

  -- an op that is no call of it, of whatever device
  pub asks_not : (act : OutOp) (k : ℕ) (reply : Reply) (old new : K) → kind.is_call act ≡ false → new ≡ old
      → Asks kind (Op.Out act) (ActorId.Device k) reply old new
  asks_not act k reply old new not same =
      subst (λ (b : Bool). MatchBool b (Replies kind k act reply old new) (Rests kind old new)) (sym not) (rests_of old new same)

  -- and one that is
  pub asks_own : (act : OutOp) (k : ℕ) (reply : Reply) (old new : K) → kind.is_call act ≡ true → Replies kind k act reply old new
      → Asks kind (Op.Out act) (ActorId.Device k) reply old new
  asks_own act k reply old new is replies =
      subst (λ (b : Bool). MatchBool b (Replies kind k act reply old new) (Rests kind old new)) (sym is) replies

-- ---- if it told its content, the names are what they were

pub record SameNames {K : Type 0} (kind : ObjectKind K) (old new : K) : Type 0 where
  pub lasts : Lasts (kind.health old) (kind.health new)
  pub names : Tells (kind.health old) → kind.names new ≡ kind.names old

module _ {K : Type 0} (kind : ObjectKind K) (law : KindLaw kind) where
  pub names_more : (a b c : K) → SameNames kind a b → SameNames kind b c → SameNames kind a c
  names_more a b c first behind = record {
    lasts = lasts_more (kind.health a) (kind.health b) (kind.health c) first.lasts behind.lasts;
    names = λ tells. behind.names (first.lasts.still tells) ∙ first.names tells;
  }

  pub names_rest : (old new : K) → Rests kind old new → SameNames kind old new
  names_rest old new rests =
      record { lasts = rests.lasts; names = λ tells. law.named old new (rests.same tells) }

  names_reply : (k : ℕ) (act : OutOp) (reply : Reply) (old new : K) → Replies kind k act reply old new → SameNames kind old new
  names_reply k act reply old new replies =
      record { lasts = replies.lasts; names = λ tells. law.called k act reply old new (replies.held tells) }

  names_either : (call : Bool) (k : ℕ) (act : OutOp) (reply : Reply) (old new : K)
      → MatchBool call (Replies kind k act reply old new) (Rests kind old new) → SameNames kind old new
  names_either true k act reply old new asks = names_reply k act reply old new asks
  names_either false k act reply old new asks = names_rest old new asks

  names_call : (actor : ActorId) (act : OutOp) (reply : Reply) (old new : K) → Calls kind actor act reply old new → SameNames kind old new
  names_call (ActorId.Device k) act reply old new asks = names_either (kind.is_call act) k act reply old new asks
  names_call actor act reply old new asks = names_rest old new asks

  pub names_asked : (op : Op) (actor : ActorId) (reply : Reply) (old new : K) → Asks kind op actor reply old new → SameNames kind old new
  names_asked (Op.Out act) actor reply old new asks = names_call actor act reply old new asks
  names_asked op actor reply old new asks = names_rest old new asks

-- so what was configured for a device still is what it has

pub named_kept : {K : Type 0} (kind : ObjectKind K) (start : Health) (config : Config) (k : ℕ) (old new : K)
    → (Tells start → Tells (kind.health old)) → SameNames kind old new → Named kind start config k old → Named kind start config k new
named_kept kind start config k old new still same has tells name is =
    subst (λ (names : ℕ → Attached). IsOf name (names k)) (sym (same.names (still tells))) (has tells name is)

pub named_by_kept : {K : Type 0} (kind : ObjectKind K) (start : Health) (guest : Option Guest) (config : Config) (old new : K)
    → (Tells start → Tells (kind.health old)) → SameNames kind old new → AreNamedBy kind start guest config old
    → AreNamedBy kind start guest config new
named_by_kept kind start None config old new still same has = tt
named_by_kept kind start (Some g) config old new still same has =
    λ k less. named_kept kind start config k old new still same (has k less)

-- and was before
pub named_before : {K : Type 0} (kind : ObjectKind K) (start : Health) (config : Config) (k : ℕ) (old new : K)
    → (Tells start → Tells (kind.health old)) → SameNames kind old new → Named kind start config k new → Named kind start config k old
named_before kind start config k old new still same has tells name is =
    subst (λ (names : ℕ → Attached). IsOf name (names k)) (same.names (still tells)) (has tells name is)

-- objects that have them if they told their content later do if they did at the start
pub named_since : {K : Type 0} (kind : ObjectKind K) (start later : Health) (guest : Option Guest) (config : Config) (now : K)
    → (Tells start → Tells later) → AreNamedBy kind later guest config now → AreNamedBy kind start guest config now
named_since kind start later None config now still has = tt
named_since kind start later (Some g) config now still has = λ k less tells. has k less (still tells)
