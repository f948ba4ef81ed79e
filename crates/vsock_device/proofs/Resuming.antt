-- What a vsock device owes of what is kept of it.
use Rattle.std.proofs.Common.{◌≡◌, ℕ, refl, subst, inl, inr, false, arith, Bool}
use Rattle.vm_types.specs.declared.reply.Reply.{Reply}
use Rattle.dev_core.specs.Inside.{Any}
use Rattle.queue_device.specs.declared.phase.Work.{Work}
use Rattle.queue_device.specs.declared.phase.Work.TheVariants as work
use Rattle.queue_device.specs.Acting.{Acting}
use Rattle.queue_device.specs.Left.{Hand}
use Rattle.queue_device.specs.Resuming.{Goes, IsShortTaken, Resumes, answering_of, serving_of, taking_of}
use Rattle.queue_device.specs.Sizes.{IsLength}
use Rattle.queue_device.proofs.Never.{never}
use Rattle.vsock_device.specs.declared.data.InHand.TheVariants as hand
use Rattle.vsock_device.specs.declared.data.Vsock.{Vsock}
use Rattle.vsock_device.specs.declared.kind.Stage.{Stage}
use Rattle.vsock_device.specs.declared.kind.Stage.TheVariants as stage
use Rattle.vsock_device.specs.Reset.{resetting}
use Rattle.vsock_device.specs.Small.{IsSizedData, SizedStage, is_sized_work, sized_hand}
use Rattle.vsock_device.specs.Vsock.{is_host_call, vsock}
use Rattle.vsock_device.specs.Work.{AnyVsock, hand_of, is_work}
use Rattle.vsock_device.proofs.Hearing.{answer, answering, at_stage}
use Rattle.vsock_device.proofs.Serving.{serve, serving, take_all}
use Rattle.vsock_device.proofs.Small.{begun_small, data_small, hand_small}
use Rattle.vsock_device.proofs.Narrow.{cut_small}
use Rattle.vsock_device.proofs.Stages.{no_take}
use Rattle.vsock_device.proofs.StagesStay.{answering_stays, serving_stays}

pub resumes_sized : (sized : Bool)
    → Resumes vsock (sized_hand sized) (is_sized_work sized) (IsSizedData sized) sized resetting false is_host_call
resumes_sized sized = record {
  rest = at_stage sized stage.Rest (λ yes. tt);
  rests = λ pages. refl;
  answering_stays = λ port pages g is. answering_stays port pages g.stage is;
  taking_stays = λ port pages k g is. absurd (no_take pages k g.stage is);
  serving_stays = λ port pages k g is. serving_stays port pages k g.stage is;
  answer = λ pages before e reply small fine fit. answer sized pages reply e fit.1 fine;
  answering = λ pages g e reply small fine is fit. answering sized pages g.stage e reply fine is;
  take = λ pages k parts e small fine inside few. take_all sized pages k parts e fine inside few;
  taking = λ pages k g e reply small fine is fit. absurd (no_take pages k g.stage is);
  serve = λ pages k c e small fine chain short. serve sized pages k c e small fine chain short;
  serving = λ pages k g e reply small fine is fit.
      serving sized pages k g.stage e reply (omega (arith, small)) fine g.small is fit;
  begun = λ k e fine yes. begun_small k e (fine yes);
  passes = λ pages k c now e f small early fine chain short is. subst (IsSizedData sized) (let same : e ≡ f = cc in same) fine;
  over = λ k e fine yes. hand_small hand.Free e tt (fine yes);
  reset = λ e fine yes. data_small e.guest_cid (fine yes).guest_cid;
  cut = λ c e op reply is yes. cut_small e.in_hand op reply is;
}

-- where replies needn't be small, by the stage alone
abbrev plain : Stage → SizedStage false
plain g = record { stage = g; small = never }

module _ {A : Type 0} (lead : Hand Vsock → Vsock → Reply → Acting Vsock A) (at : Work) (pages : ℕ) (Q : A → Type 0) where
  plainly : (t : Acting Vsock A) → Goes vsock (sized_hand false) (is_sized_work false) (IsSizedData false) false lead at pages Q t
      → Goes vsock hand_of is_work AnyVsock false lead at pages Q t
  plainly t (inl g) = inl (record { own = g.own; stage = g.stage.stage; fine = tt; is = g.is; left = g.left })
  plainly t (inr h) = inr (record { own = h.own; result = h.result; fine = tt; is = h.is; left = h.left })

pub resumes : Resumes vsock hand_of is_work AnyVsock false resetting false is_host_call
resumes =
    let own = resumes_sized false in
    record {
      rest = stage.Rest;
      rests = λ pages. refl;
      answering_stays = λ port pages g is. answering_stays port pages g is;
      taking_stays = λ port pages k g is. absurd (no_take pages k g is);
      serving_stays = λ port pages k g is. serving_stays port pages k g is;
      answer = λ pages before e reply small fine fit.
          plainly answering_of work.Answer pages Any _ (own.answer pages before e reply small never fit);
      answering = λ pages g e reply small fine is fit.
          plainly answering_of work.Answer pages Any _ (own.answering pages (plain g) e reply small never is fit);
      take = λ pages k parts e small fine inside few.
          plainly taking_of (work.Take k) pages (IsShortTaken vsock false pages k) _ (own.take pages k parts e small never inside few);
      taking = λ pages k g e reply small fine is fit. absurd (no_take pages k g is);
      serve = λ pages k c e small fine chain short.
          plainly serving_of (work.Serve k) pages (IsLength false) _ (own.serve pages k c e small never chain short);
      serving = λ pages k g e reply small fine is fit.
          plainly serving_of (work.Serve k) pages (IsLength false) _ (own.serving pages k (plain g) e reply small never is fit);
      begun = λ k e fine. tt;
      passes = λ pages k c now e f small early fine chain short is. tt;
      over = λ k e fine. tt;
      reset = λ e fine. tt;
      cut = λ c e op reply is. never;
    }
