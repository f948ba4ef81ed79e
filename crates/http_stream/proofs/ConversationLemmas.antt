-- There is a conversation from each connection, it is one, and its bytes may come in pieces.
use Rattle.std.proofs.Common.{◌≡◌, ℕ, zero, suc, ◌<◌, ◌≤◌, inl, inr, Bool, true, false, List, [], ◌∷◌, ◌++◌, length, refl, sym, ap, subst, ◌∙◌, append_assoc, if◌then◌else◌, arith}
use Rattle.std.proofs.lemmas.List.{append-nil}
use Rattle.http_stream.specs.declared.request.Next.{Next}
use Rattle.http_stream.specs.declared.request.Next.TheVariants as next
use Rattle.http_stream.specs.Stream.{Judged, early, Connection}
use Rattle.http_stream.specs.Conversation.{arrived, new_connection, IsDue, Takes, IsQuiet, Conversation, ConversationFront, IsDetermined}
use Rattle.http_stream.proofs.CutLemmas.{made, judged_once, none_not_failed, bad_stays, bad_failed, request_falls, request_stays, request_lives}
use Rattle.http_stream.proofs.AnswerLemmas.{some_answer}

-- ---- what is taken

takes_once : (c : Connection) (g h : Next) (d e : Connection) → Takes c g d → Takes c h e → (g ≡ h) × (d ≡ e)
takes_once c g h d e a b =
    let same : made g d ≡ made h e = judged_once c.pending (made g d) (made h e) a.judged b.judged in
    (ap (λ x. x.next) same, ap (λ x. x.after) same)

-- where all is quiet nothing is taken
quiet_takes_none : (c : Connection) (given : Next) (d : Connection) → IsQuiet c → Takes c given d → ⊥
quiet_takes_none c given d (inl failed) takes = let live = takes.live in cc
quiet_takes_none c given d (inr (live, none)) takes =
    let same : made given d ≡ made next.None c = judged_once c.pending (made given d) (made next.None c) takes.judged none in
    subst IsDue (ap (λ x. x.next) same) takes.due

none_quiet : (c d : Connection) → c.failed ≡ false → Judged c.pending (made next.None d) → IsQuiet c
none_quiet c d live judged =
    let left = none_not_failed c.pending d judged in
    let same : d ≡ c = λ i. record { pending = left.0 i; failed = (left.1 ∙ sym live) i } in
    inr (live, subst (λ (x : Connection). Judged c.pending (made next.None x)) same judged)

-- ---- more bytes

arrived_live : (c : Connection) (more : List ℕ) → c.failed ≡ false → arrived c more ≡ record { pending = c.pending ++ more; failed = false }
arrived_live c more live = ap (λ (b : Bool). if b then c else record { pending = c.pending ++ more; failed = b }) live

arrived_failed : (c : Connection) (more : List ℕ) → c.failed ≡ true → arrived c more ≡ c
arrived_failed c more failed = ap (λ (b : Bool). if b then c else record { pending = c.pending ++ more; failed = b }) failed

takes_live : (c : Connection) (given : Next) (d : Connection) (more : List ℕ) → c.failed ≡ false
    → IsDue given → Judged c.pending (made given d) → Judged (c.pending ++ more) (made given (arrived d more))
takes_live c (next.Request r) d more live due judged =
    let lives : d.failed ≡ false = request_lives c.pending r d judged in
    let is : d ≡ record { pending = d.pending; failed = false } = ap (λ (b : Bool). record { pending = d.pending; failed = b }) lives in
    let old : Judged c.pending (made (next.Request r) (record { pending = d.pending; failed = false })) =
    subst (λ (x : Connection). Judged c.pending (made (next.Request r) x)) is judged in
    subst (λ (x : Connection). Judged (c.pending ++ more) (made (next.Request r) x)) (sym (arrived_live d more lives))
    (request_stays c.pending more r d.pending old)
takes_live c (next.Bad why) d more live due judged =
    subst (λ (x : Connection). Judged (c.pending ++ more) (made (next.Bad why) x))
    (sym (arrived_failed d more (bad_failed c.pending why d judged))) (bad_stays c.pending more why d judged)
takes_live c next.None d more live due judged = absurd due

takes_more : (c : Connection) (given : Next) (d : Connection) (more : List ℕ) → Takes c given d
    → Takes (arrived c more) given (arrived d more)
takes_more c given d more takes =
    subst (λ (x : Connection). Takes x given (arrived d more)) (sym (arrived_live c more takes.live))
    (record { live = refl; judged = takes_live c given d more takes.live takes.due takes.judged; due = takes.due })

-- ---- conversations

-- where each answer is determined, so is a conversation
pub one_conversation : {W M A : Type 0} (step : W → Next → M → List A → M → Type 0) (hows : List W)
    (c d e : Connection) (m n k : M) (s t : List A)
    → IsDetermined step → Conversation step hows c m s d n → Conversation step hows c m t e k
    → (s ≡ t) × (d ≡ e) × (n ≡ k)
one_conversation step [] c d e m n k s t det a b = (a.2 ∙ sym b.2, a.1 ∙ sym b.1, a.3 ∙ sym b.3)
one_conversation {W} {M} {A} step (how ∷ hows) c d e m n k s t det (g, a, f, mid, r, takes, went, on, is) (h, b, p, other, q, grabs, goes, onward, be) =
    let same = takes_once c g h a b takes grabs in
    let goes_g : step how g m p other = subst (λ (x : Next). step how x m p other) (sym same.0) goes in
    let first = det how g m f p mid other went goes_g in
    let then_a : Conversation step hows a mid q e k =
    subst (λ (x : Connection). Conversation step hows x mid q e k) (sym same.1)
    (subst (λ x. Conversation step hows b x q e k) (sym first.1) onward) in
    let rest = one_conversation step hows a d e mid n k r q det on then_a in
    (is ∙ (ap (λ (x : List A). x ++ r) first.0 ∙ (ap (λ (x : List A). p ++ x) rest.0 ∙ sym be)), rest.1, rest.2)

-- bytes in two pieces are answered as the whole is
pub conversations_join : {W M A : Type 0} (step : W → Next → M → List A → M → Type 0) (hows others : List W)
    (c d e : Connection) (more : List ℕ) (m n k : M) (s t : List A)
    → Conversation step hows c m s d n → Conversation step others (arrived d more) n t e k
    → Conversation step (hows ++ others) (arrived c more) m (s ++ t) e k
conversations_join {W} {M} {A} step [] others c d e more m n k s t (quiet, dc, se, nm) behind =
    let one = subst (λ (x : Connection). Conversation step others (arrived x more) n t e k) dc behind in
    let two = subst (λ x. Conversation step others (arrived c more) x t e k) nm one in
    subst (λ (x : List A). Conversation step others (arrived c more) m (x ++ t) e k) (sym se) two
conversations_join {W} {M} {A} step (how ∷ hows) others c d e more m n k s t (g, a, f, mid, r, takes, went, on, is) behind = (
  g,
  arrived a more,
  f,
  mid,
  r ++ t,
  takes_more c g a more takes,
  went,
  conversations_join step hows others a d e more mid n k r t on behind,
  ap (λ (x : List A). x ++ t) is ∙ append_assoc f r t,
)

-- how much is due is for the bytes to say, whoever answers it and how
pub as_many_due : {W M A : Type 0} (step : W → Next → M → List A → M → Type 0) (hows others : List W)
    (c d e : Connection) (m l n k : M) (s t : List A)
    → Conversation step hows c m s d n → Conversation step others c l t e k → length hows ≡ length others
as_many_due step [] [] c d e m l n k s t a b = refl
as_many_due step [] (other ∷ others) c d e m l n k s t a (h, b, p, mid, q, grabs, goes, onward, be) =
    absurd (quiet_takes_none c h b a.0 grabs)
as_many_due step (how ∷ hows) [] c d e m l n k s t (g, a, f, mid, r, takes, went, on, is) b =
    absurd (quiet_takes_none c g a b.0 takes)
as_many_due step (how ∷ hows) (other ∷ others) c d e m l n k s t (g, a, f, mid, r, takes, went, on, is) (h, b, p, mid_b, q, grabs, goes, onward, be) =
    let same = takes_once c g h a b takes grabs in
    let then_a : Conversation step others a mid_b q e k =
    subst (λ (x : Connection). Conversation step others x mid_b q e k) (sym same.1) onward in
    ap (λ (x : ℕ). suc x) (as_many_due step hows others a d e mid mid_b n k r q on then_a)

-- then all is quiet
pub quiet_after : {W M A : Type 0} (step : W → Next → M → List A → M → Type 0) (hows : List W) (c d : Connection) (m n : M)
    (s : List A) → Conversation step hows c m s d n → IsQuiet d
quiet_after step [] c d m n s (quiet, dc, se, nm) = subst IsQuiet (sym dc) quiet
quiet_after step (how ∷ hows) c d m n s (g, a, f, mid, r, takes, went, on, is) = quiet_after step hows a d mid n r on

pub new_quiet : IsQuiet new_connection
new_quiet = inr (refl, early refl refl)

nothing_arrives : (c : Connection) (failed : Bool) → c.failed ≡ failed → arrived c [] ≡ c
nothing_arrives c true is = arrived_failed c [] is
nothing_arrives c false is =
    arrived_live c [] is ∙ (λ i. record { pending = append-nil c.pending i; failed = sym is i })

-- and stays so where no bytes come
pub no_front : {W M A : Type 0} (step : W → Next → M → List A → M → Type 0) (hows : List W) (c d : Connection) (m n : M)
    (s : List A) → IsQuiet c → ConversationFront step hows (arrived c []) m s d n → ⊥
no_front step [] c d m n s quiet (g, a, takes, dc, se, nm) =
    quiet_takes_none c g a quiet (subst (λ (x : Connection). Takes x g a) (nothing_arrives c c.failed refl) takes)
no_front step (how ∷ hows) c d m n s quiet (g, a, f, mid, r, takes, went, on, is) =
    quiet_takes_none c g a quiet (subst (λ (x : Connection). Takes x g a) (nothing_arrives c c.failed refl) takes)

-- the way, so many times
abbrev pub each : {W : Type 0} → ℕ → W → List W
each zero how = []
each (suc count) how = how ∷ each count how

-- where one way answers whatever is due, and keeps P of the machine, everything can be answered in that way
module _ {W M A : Type 0} (step : W → Next → M → List A → M → Type 0) (how : W) (P : M → Type 0)
    (answers : (given : Next) (m : M) → P m → (text : List A) × (n : M) × step how given m text n × P n) where
  abbrev pub Completes : Connection → M → Type 0
  Completes c m =
      (count : ℕ) × (text : List A) × (d : Connection) × (n : M) × Conversation step (each count how) c m text d n × P n

  nothing_due : (c : Connection) (m : M) → IsQuiet c → P m → Completes c m
  nothing_due c m quiet kept = (zero, [], c, m, (quiet, refl, refl, refl), kept)

  one_due : (c after : Connection) (given : Next) (m : M) → Takes c given after → P m
      → ((mid : M) → P mid → Completes after mid) → Completes c m
  one_due c after given m takes kept rest =
      let first = answers given m kept in
      let others = rest first.1 first.3 in (
        suc others.0,
        first.0 ++ others.1,
        others.2,
        others.3,
        (given, after, first.0, first.1, others.1, takes, first.2, others.4, refl),
        others.5,
      )

  by_next : (c after : Connection) (given : Next) (m : M) → c.failed ≡ false → Judged c.pending (made given after) → P m
      → ((d : Connection) (mid : M) → length d.pending < length c.pending → P mid → Completes d mid) → Completes c m
  by_next c after next.None m live judged kept rest = nothing_due c m (none_quiet c after live judged) kept
  by_next c after (next.Bad why) m live judged kept rest =
      one_due c after (next.Bad why) m (record { live = live; judged = judged; due = tt }) kept
      (λ mid k. nothing_due after mid (inl (bad_failed c.pending why after judged)) k)
  by_next c after (next.Request r) m live judged kept rest =
      one_due c after (next.Request r) m (record { live = live; judged = judged; due = tt }) kept
      (λ mid k. rest after mid (request_falls c.pending r after judged) k)

  by_failed : (failed : Bool) (c : Connection) (m : M) → c.failed ≡ failed → P m
      → ((d : Connection) (mid : M) → length d.pending < length c.pending → P mid → Completes d mid) → Completes c m
  by_failed true c m is kept rest = nothing_due c m (inl is) kept
  by_failed false c m is kept rest =
      let a = some_answer c.pending in by_next c a.0.after a.0.next m is a.1 kept rest

  within : (bound : ℕ) (c : Connection) (m : M) → length c.pending ≤ bound → P m → Completes c m
  within zero c m short kept = by_failed c.failed c m refl kept (λ d mid shorter k. absurd (omega arith))
  within (suc bound) c m short kept = by_failed c.failed c m refl kept (λ d mid shorter k. within bound d mid (omega arith) k)

  pub some_conversation : (c : Connection) (m : M) → P m → Completes c m
  some_conversation c m kept = within (length c.pending) c m (omega arith) kept
