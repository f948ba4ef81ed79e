-- A loop over the requests of a stream, and one over its pieces.
use Rattle.std.proofs.Common.{◌≡◌, ℕ, inl, inr, Bool, true, false, List, [], ◌∷◌, ◌++◌, refl, sym, ap, subst, ◌∙◌, append_assoc, if◌then◌else◌}
use Rattle.std.proofs.lemmas.List.{append-nil}
use Rattle.refusals.specs.declared.refusal.Refusal.{Refusal}
use Rattle.http_stream.specs.declared.request.Request.{Request}
use Rattle.http_stream.specs.declared.request.Next.TheVariants as next
use Rattle.http_stream.specs.Stream.{Judged, early, Connection}
use Rattle.http_stream.specs.Conversation.{arrived}
use Rattle.http_stream.specs.Cuts.{Reads}
use Rattle.http_stream.proofs.CutLemmas.{made, request_lives, fails_for_good, cuts_anywhere}
use Rattle.http_front.specs.Loops.{Continues, Drains}

pub continues_more : (s : List ℕ) (old mid new : List Request) (c d : Connection) (r : Request) → Continues s old mid c
    → Judged c.pending (made (next.Request r) d) → new ≡ mid ++ r ∷ [] → Continues s old new d
continues_more s old mid new c d r (rs, e, k) j n =
    let P : Bool → Type 0 = λ b. Judged c.pending (made (next.Request r) (record { pending = d.pending; failed = b })) in
    let step = subst P (request_lives c.pending r d j) j in (
      rs ++ r ∷ [],
      n ∙ (ap (λ x. x ++ r ∷ []) e ∙ append_assoc old rs (r ∷ [])),
      λ qs q x. rw append_assoc (k (r ∷ qs) q (d.pending, step, x)),
    )

pub drains_none : (s : List ℕ) (old mid : List Request) (c d : Connection) → Continues s old mid c
    → Judged c.pending (made next.None d) → Drains s old mid d
drains_none s old mid c d (rs, e, k) j =
    let P : List Request → Type 0 = λ l. Reads s l d in (rs, e, subst P (append-nil rs) (k [] d (inl j)))

pub drains_bad : (s : List ℕ) (old mid : List Request) (c d : Connection) (n : Refusal) → Continues s old mid c
    → Judged c.pending (made (next.Bad n) d) → Drains s old mid d
drains_bad s old mid c d n (rs, e, k) j =
    let P : List Request → Type 0 = λ l. Reads s l d in (rs, e, subst P (append-nil rs) (k [] d (inr (n, j))))

pub piece_failed : (s piece : List ℕ) (rs : List Request) (c : Connection) → c.failed ≡ true → Reads s rs c → Reads (s ++ piece) rs c
piece_failed s piece rs c f x = fails_for_good s piece rs c x f

pending_then : (c : Connection) (piece : List ℕ) → c.failed ≡ false → (arrived c piece).pending ≡ c.pending ++ piece
pending_then c piece f = ap (λ (b : Bool). (if b then c else record c { pending = c.pending ++ piece }).pending) f

pub piece_taken : (s piece : List ℕ) (old new : List Request) (c d e : Connection) → c.failed ≡ false
    → d ≡ arrived c piece → Drains d.pending old new e → Reads s old c → Reads (s ++ piece) new e
piece_taken s piece old new c d e f q (rs, n, x) y =
    let P : List ℕ → Type 0 = λ w. Reads w rs e in
    let k : d.pending ≡ c.pending ++ piece = ap (λ z. z.pending) q ∙ pending_then c piece f in
    let z = cuts_anywhere s piece old rs c e y f (subst P k x) in
    let Q : List Request → Type 0 = λ l. Reads (s ++ piece) l e in subst Q (sym n) z

pub nothing_read : Reads [] [] (record { pending = []; failed = false })
nothing_read = inl (early refl refl)
