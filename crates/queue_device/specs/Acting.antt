-- What is done act by act over data that may be changed from outside between two acts, and comes to a result.
use Rattle.std.specs.Prelude.{◌≡◌, Option, Some, None}
use Rattle.vm_types.specs.declared.op.Op.{Op}
use Rattle.vm_types.specs.declared.reply.Reply.{Reply}
use Rattle.vm_types.specs.Fits.{Fits}
use Rattle.device_trace.specs.Doing.{Doing, Gives, Wants}

pub data Acting (E A : Type 0) : Type 0 where
  Comes : E → A → Acting E A
  Acts : E → Op → (E → Reply → Acting E A) → Acting E A

-- first this, which neither reads nor writes the data, and then what its result and the data lead to
abbrev pub performing : {E A B : Type 0} → Doing A → E → (E → A → Acting E B) → Acting E B
performing (Gives a) e more = more e a
performing (Wants op on) e more = Acts e op (λ f reply. performing (on reply) f more)

-- what is told of acts that are begun or led on: nothing, and then this one is wanted, and a reply leads on so; or the
-- result that they came to
abbrev pub Works : {E A : Type 0} → Acting E A → Option A → E → Op → (E → Reply → Acting E A) → Type 0
Works t None e op on = t ≡ Acts e op on
Works t (Some a) e op on = t ≡ Comes e a

-- each act that may come meets P, and the result meets Q, whatever a change makes of the data meanwhile
abbrev pub ActingKeeps : {E A : Type 0} → (Op → Type 0) → (A → Type 0) → Acting E A → Type 0
ActingKeeps P Q (Comes e a) = Q a
ActingKeeps {E = E} P Q (Acts e op on) =
    P op × ((f : E) (reply : Reply) → Fits op reply → ActingKeeps P Q (on f reply))
