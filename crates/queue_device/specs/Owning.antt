-- What a kind leaves of its own data.
use Rattle.std.specs.Prelude.{List}
use Rattle.vm_types.specs.declared.reply.Reply.{Reply}
use Rattle.vm_types.specs.Fits.{Fits}
use Rattle.vq_split.specs.declared.queue.Part.{Part}
use Rattle.queue_device.specs.declared.lanes.Which.{Which}
use Rattle.queue_device.specs.Acting.{Acting, Acts, Comes}
use Rattle.queue_device.specs.Chains.{Chain}
use Rattle.queue_device.specs.Left.{Hand}
use Rattle.queue_device.specs.Service.{Service}

-- each act leads from the data of the moment when its reply comes to data that T relates to them, and so do these data
abbrev pub ActingMoves : {E A : Type 0} → (E → E → Type 0) → E → Acting E A → Type 0
ActingMoves T e (Comes f a) = T e f
ActingMoves {E = E} T e (Acts f op on) =
    T e f × ((g : E) (reply : Reply) → Fits op reply → ActingMoves T g (on g reply))

-- all that a kind does leaves of its data what T says, but for a chain that passes at a guest time
pub record Leaves {E : Type 0} (s : Service E) (T : E → E → Type 0) : Type 0 where
  pub same : (e : E) → T e e
  pub again : (e f g : E) → T e f → T f g → T e g
  pub answer : (e : E) (reply : Reply) → ActingMoves T e (s.answer e reply)
  pub begun : (k : Which) (e : E) → T e (s.begun k e)
  pub take : (k : Which) (parts : List Part) (e : E) → ActingMoves T e (s.take k parts e)
  pub serve : (k : Which) (c : Chain) (e : E) → ActingMoves T e (s.serve k c e)
  pub over : (k : Which) (e : E) → T e (s.over k e)
  pub reset : (e : E) → T e (s.reset e)

-- and so does the work that it has begun, wherever that leads
pub record HandLeaves {E : Type 0} (T : E → E → Type 0) (h : Hand E) : Type 0 where
  pub answering : (e : E) (reply : Reply) → ActingMoves T e (h.answering e reply)
  pub taking : (e : E) (reply : Reply) → ActingMoves T e (h.taking e reply)
  pub serving : (e : E) (reply : Reply) → ActingMoves T e (h.serving e reply)
