-- What the connection gives, by what was found at the front of its bytes.
use Rattle.std.proofs.Common.{◌≡◌, ℕ, inl, inr, true, false, List, drop, refl, sym, ap, subst, ◌∙◌}
use Rattle.std.specs.Prelude.{IsUtf8}
use Rattle.httparse.specs.declared.spans.HeaderSpan.{HeaderSpan}
use Rattle.httparse.specs.Spans.{span_bytes}
use Rattle.refusals.specs.declared.refusal.Refusal.{Refusal}
use Rattle.http_stream.specs.declared.request.Next.{Next}
use Rattle.http_stream.specs.declared.request.Next.TheVariants as next
use Rattle.http_stream.specs.declared.request.Request.{Request}
use Rattle.http_stream.specs.Stream.{Connection, Judged, refused, window}
use Rattle.http_stream.specs.Conversation.{IsDue, IsQuiet, Takes}
use Rattle.http_stream.proofs.CutLemmas.{made, judged_once}
use Rattle.http_front.specs.declared.found.Finding.TheVariants.{TooFew}
use Rattle.http_front.specs.declared.found.Place.{Place}
use Rattle.http_front.specs.Told.{LiesAt, Tells, live, request_at, size}
use Rattle.http_front.proofs.Judging.{token_text}
use Rattle.http_front.proofs.TooFew.{too_few_now}

-- ---- what is found says what is given

pub quiet_of : (s : List ℕ) (spans : List HeaderSpan) (n : ℕ) → Tells s spans (TooFew n) → IsQuiet (live s)
quiet_of s spans n (all, few) = inr (refl, too_few_now s n few all)

pub takes_bad : (s : List ℕ) (why : Refusal) → Judged s (refused why) → Takes (live s) (next.Bad why) (refused why).after
takes_bad s why j = record { live = refl; judged = j; due = record {} }

pub takes_whole : (s : List ℕ) (spans : List HeaderSpan) (p : Place) (r : Request) → LiesAt s spans p → r ≡ request_at s spans p
    → Takes (live s) (next.Request r) (live (drop (size p) s))
takes_whole s spans p r lies e =
    record { live = refl; judged = rw e lies.judged; due = record {} }

pub method_is_text : (s front : List ℕ) (spans : List HeaderSpan) (p : Place) → front ≡ window s → LiesAt s spans p
    → IsUtf8 (span_bytes front p.head.method)
method_is_text s front spans p e lies =
    rw e (subst IsUtf8 (sym lies.found.1.method) (token_text _ lies.found.1.reads.0.method))

-- ---- one thing is given

pub one_left : (c : Connection) (g h : Next) (d e : Connection) → Takes c g d → Takes c h e → d ≡ e
one_left c g h d e a b = ap (λ x. x.after) (judged_once c.pending (made g d) (made h e) a.judged b.judged)

none_is_not_due : (g : Next) → IsDue g → g ≡ next.None → ⊥
none_is_not_due g due e = let k : IsDue next.None = subst IsDue e due in k

pub not_quiet : (c : Connection) (g : Next) (d : Connection) → Takes c g d → IsQuiet c → ⊥
not_quiet c g d takes (inl failed) = let k : true ≡ false = sym failed ∙ takes.live in cc
not_quiet c g d takes (inr (lives, none)) =
    none_is_not_due g takes.due (ap (λ x. x.next) (judged_once c.pending (made g d) (made next.None c) takes.judged none))

-- a peek and then a skip
pub judged_next : (c mid new : Connection) (n : Next) → c.failed ≡ false → mid ≡ c → (n ≡ next.None → IsQuiet c)
    → (IsDue n → (d : Connection) × Takes c n d) → ((g : Next) (d : Connection) → Takes mid g d → new ≡ d)
    → (IsQuiet mid → new ≡ mid) → Judged c.pending (made n new)
judged_next c mid new n lives same quiet due taken stays =
    by_next n quiet due (subst (λ (m : Connection). (g : Next) (d : Connection) → Takes m g d → new ≡ d) same taken)
    (subst (λ (m : Connection). IsQuiet m → new ≡ m) same stays)
  where
    by_due : (g : Next) → (d : Connection) × Takes c g d → ((h : Next) (d : Connection) → Takes c h d → new ≡ d) → Judged c.pending (made g new)
    by_due g (d, takes) taken = subst (λ (x : Connection). Judged c.pending (made g x)) (sym (taken g d takes)) takes.judged

    by_quiet : IsQuiet c → (IsQuiet c → new ≡ c) → Judged c.pending (made next.None new)
    by_quiet (inl failed) stays = absurd (let k : true ≡ false = sym failed ∙ lives in cc)
    by_quiet (inr (l, j)) stays = subst (λ (x : Connection). Judged c.pending (made next.None x)) (sym (stays (inr (l, j)))) j

    by_next : (m : Next) → (m ≡ next.None → IsQuiet c) → (IsDue m → (d : Connection) × Takes c m d)
        → ((g : Next) (d : Connection) → Takes c g d → new ≡ d) → (IsQuiet c → new ≡ c) → Judged c.pending (made m new)
    by_next (next.Request r) quiet due taken stays = by_due (next.Request r) (due (record {})) taken
    by_next (next.Bad why) quiet due taken stays = by_due (next.Bad why) (due (record {})) taken
    by_next next.None quiet due taken stays = by_quiet (quiet refl) stays
