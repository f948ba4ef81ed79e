-- What a hart wants and becomes that fetches its next instruction from RAM, and makes its access at once.
use Rattle.std.proofs.Common.{◌≡◌, ℕ, ◌<◌, ◌^◌, nat_lt, ap, ◌∙◌, Bool, true, false, if◌then◌else◌, Option, Some, arith}
use Rattle.vm_types.specs.declared.op.Op.{Op}
use Rattle.vm_types.specs.declared.reply.Reply.{Reply}
use Rattle.vm_types.specs.Fits.{fits}
use Rattle.le_fields.specs.Fields.{little_endian, bytes_of}
use Rattle.guest_memory.specs.Ram.{ram_start}
use Rattle.rv_supervisor.specs.declared.regs.Regs.{Regs}
use Rattle.rv_supervisor.specs.declared.regs.Turn.{Turn}
use Rattle.rv_doing.specs.Doing.{Doing, Ends, Asks, asked, ended}
use Rattle.rv_doing.specs.Does.{does}
use Rattle.hart_trace.specs.Traces.{executes, fetch_fault, is_full, opening}
use Rattle.hart_trace.specs.States.{Hart, begins_by, fresh, hart_fetched, hart_next, hart_stepped, hart_wants, op_or_idle, stepped_by, turned_by, wants_by}
use Rattle.hart_rv64.specs.Fetching.{IsFetching, fetch_reply}

-- it wants the word at its pc
pub fetching_wants : (h : Hart) → IsFetching h → hart_wants h ≡ Op.Read h.regs.pc 4
fetching_wants h is =
    ap (λ (b : Option ℕ). wants_by b h.regs) is.between ∙ ap (λ (t : Turn). opening t h.regs) is.turn

stepped : (h : Hart) (reply : Reply) → IsFetching h → hart_stepped h reply ≡ hart_fetched h.regs reply
stepped h reply is =
    ap (λ (b : Option ℕ). stepped_by b h.regs reply) is.between ∙ ap (λ (t : Turn). turned_by t h.regs reply) is.turn

taken : (h : Hart) (reply : Reply) → fits (hart_wants h) reply ≡ true → hart_next h reply ≡ hart_stepped h reply
taken h reply fit = ap (λ (b : Bool). if b then hart_stepped h reply else h) fit

fetch_fits : (h : Hart) (word : ℕ) → IsFetching h → fits (hart_wants h) (fetch_reply word) ≡ true
fetch_fits h word is = ap (λ (op : Op). fits op (fetch_reply word)) (fetching_wants h is)

pub word_is : (word : ℕ) → word < 2 ^ 32 → little_endian (bytes_of 4 word) ≡ word
word_is word small = omega (arith, small)

-- what the word does is what becomes of the hart
pub fetching_next : (h : Hart) (word : ℕ) → word < 2 ^ 32 → IsFetching h
    → hart_next h (fetch_reply word) ≡ begins_by (asked (executes word h.regs)) word h.regs (fetch_reply word)
fetching_next h word small is =
    taken h (fetch_reply word) (fetch_fits h word is)
    ∙ stepped h (fetch_reply word) is
    ∙ ap (λ (w : ℕ). begins_by (asked (executes w h.regs)) w h.regs (fetch_reply word)) (word_is word small)

executes_is : (word : ℕ) (r : Regs) → nat_lt r.pc ram_start ≡ false → executes word r ≡ does word r
executes_is word r ram = ap (λ (b : Bool). if b then Ends (fetch_fault r) else does word r) ram

-- a word that asks for nothing ends its instruction at once
pub plain_next : (h : Hart) (word : ℕ) (after : Regs) → word < 2 ^ 32 → IsFetching h → nat_lt h.regs.pc ram_start ≡ false
    → does word h.regs ≡ Ends after → hart_next h (fetch_reply word) ≡ fresh after
plain_next h word after small is ram ends =
    let doing : executes word h.regs ≡ Ends after = executes_is word h.regs ram ∙ ends in
    fetching_next h word small is
    ∙ ap (λ (d : Doing). begins_by (asked d) word h.regs (fetch_reply word)) doing
    ∙ ap (λ (d : Doing). fresh (ended d (fetch_reply word))) doing

module _ (h : Hart) (word : ℕ) (op : Op) (ends : Reply → Regs) (small : word < 2 ^ 32) (is : IsFetching h)
    (ram : nat_lt h.regs.pc ram_start ≡ false) (asks : does word h.regs ≡ Asks op ends) where
  abbrev mid : Hart
  mid = record { regs = h.regs; begun = Some word }

  doing : executes word h.regs ≡ Asks op ends
  doing = executes_is word h.regs ram ∙ asks

  begun : hart_next h (fetch_reply word) ≡ mid
  begun =
      fetching_next h word small is
      ∙ ap (λ (d : Doing). begins_by (asked d) word h.regs (fetch_reply word)) doing

  mid_wants : hart_wants mid ≡ op
  mid_wants = ap (λ (d : Doing). op_or_idle (asked d)) doing

  -- a word that asks for an access makes the hart want it
  pub access_wanted : hart_wants (hart_next h (fetch_reply word)) ≡ op
  access_wanted = ap hart_wants begun ∙ mid_wants

  -- and its reply ends the instruction
  pub access_ended : (reply : Reply) → fits op reply ≡ true → is_full reply ≡ false
      → hart_next (hart_next h (fetch_reply word)) reply ≡ fresh (ends reply)
  access_ended reply fit full =
      ap (λ (m : Hart). hart_next m reply) begun
      ∙ taken mid reply (ap (λ (o : Op). fits o reply) mid_wants ∙ fit)
      ∙ ap (λ (b : Bool). if b then mid else fresh (ended (executes word h.regs) reply)) full
      ∙ ap (λ (d : Doing). fresh (ended d reply)) doing
