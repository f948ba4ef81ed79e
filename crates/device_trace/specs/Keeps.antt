-- What holds of each act that may come, and of what is come to.
use Rattle.vm_types.specs.declared.op.Op.{Op}
use Rattle.vm_types.specs.declared.reply.Reply.{Reply}
use Rattle.vm_types.specs.Fits.{Fits}
use Rattle.device_trace.specs.Doing.{Doing, Gives, Wants}
use Rattle.device_trace.specs.Script.{Script, Ends, Asks}

-- each act that may come meets P, and the result meets Q
abbrev pub Keeps : {A : Type 0} → (Op → Type 0) → (A → Type 0) → Doing A → Type 0
Keeps P Q (Gives a) = Q a
Keeps P Q (Wants op on) = P op × ((reply : Reply) → Fits op reply → Keeps P Q (on reply))

-- the same of a device, whose data at the end meet R, whatever a change makes of them meanwhile that leaves what S says
abbrev pub Stays : {D : Type 0} → (Op → Type 0) → (D → Type 0) → (D → D → Type 0) → Script D → Type 0
Stays P R S (Ends d) = R d
Stays {D = D} P R S (Asks d op on) =
    P op × ((e : D) (reply : Reply) → S d e → Fits op reply → Stays P R S (on e reply))

-- the same of what begins a group: its first act meets O, and each act behind it P
abbrev pub Opens : {D : Type 0} → (Op → Type 0) → (Op → Type 0) → (D → Type 0) → (D → D → Type 0) → Script D → Type 0
Opens O P R S (Ends d) = R d
Opens {D = D} O P R S (Asks d op on) =
    O op × ((e : D) (reply : Reply) → S d e → Fits op reply → Stays P R S (on e reply))

-- Each act leads from the data of the moment when its reply comes to data that T relates to them; so do these data to what is
-- left.
abbrev pub Moves : {D : Type 0} → (D → D → Type 0) → D → Script D → Type 0
Moves T d (Ends e) = T d e
Moves {D = D} T d (Asks e op on) = T d e × ((f : D) (reply : Reply) → Fits op reply → Moves T f (on f reply))
