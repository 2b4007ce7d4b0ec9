-- What an object tells of a request and of its reply, by its member `reply` and by what is left without it.
use Rattle.std.proofs.Common.{◌≡◌, ℕ, Bool, true, false, ◌&&◌, Option, Some, None, is_some, codes, refl, sym, ap, ◌∙◌}
use Rattle.std.proofs.lemmas.Option.{none-some, same_Some}
use Rattle.serde_json.specs.Data.{Data}
use Rattle.serde_json.specs.Find.{get}
use Rattle.edge_base.specs.declared.message.Reply.{Reply}
use Rattle.trace_form.specs.declared.told.Told.{Told as ToldPart}
use Rattle.trace_form.specs.Asked.{Told, IsTold, IsShapeless, ToldReply, reply_by, reply_of, has_moments}
use Rattle.trace_form.specs.declared.told.Sent.{Sent as SentPart}
use Rattle.trace_form.specs.Sent.{Sent, IsSent, IsFormless}
use Rattle.trace_form.specs.Found.{told_with, IsToldBy, IsBothBy, sent_with, IsSentBy, IsBothSent, HasOthers}
use Rattle.trace_form.proofs.MemberLemmas.{told-beside, sent-beside, others-back}

module _ (value rest : Data) (others : HasOthers (codes "reply") value rest) where
  -- the rest tells no request
  pub shapeless-rest : ((told : Told) → ¬ (IsTold rest told)) → IsShapeless value
  shapeless-rest none told reply is = none told (told-beside rest value told (others-back (codes "reply") value rest others) is.0)

  told-value : (part : ToldPart) → IsToldBy rest part → IsToldBy value part
  told-value part is = (is.0, told-beside value rest (told_with is.0 part) others is.1, is.2)

  -- the member tells no reply
  pub shapeless-reply : (part : ToldPart) (member : Option Data) → IsToldBy rest part → member ≡ get (codes "reply") value
      → None ≡ reply_by part.at member → IsShapeless value
  shapeless-reply part member is is_member none told reply both =
      let mine = (told-value part is).1 in
      let same = same_Some part.at told.at (sym mine.at ∙ both.0.at) in
      none-some reply (none ∙ ap (reply_by part.at) is_member ∙ ap (λ at. reply_of at value) same ∙ both.1)

  -- both are told
  pub both-told : (part : ToldPart) (member : Option Data) (reply : Option ToldReply) → IsToldBy rest part → member ≡ get (codes "reply") value
      → Some reply ≡ reply_by part.at member → IsBothBy value (part, reply)
  both-told part member reply is is_member some = (told-value part is, sym (some ∙ ap (reply_by part.at) is_member))

-- a moment is out of range where the request has none
pub request-undated : (at : Option ℕ) (reply : Option ToldReply) → at ≡ None → has_moments at reply ≡ false
request-undated at reply is = rw is refl

false-behind : (b : Bool) → (b && false) ≡ false
false-behind true = refl
false-behind false = refl

-- and where the reply has none
pub reply-undated : (at : Option ℕ) (reply : Option ToldReply) → (r : Reply) × (reply ≡ Some (r, None)) → has_moments at reply ≡ false
reply-undated at reply late = rw (late.1) (false-behind (is_some at))

-- the same where the head and the body stand as they were sent
module _ (value rest : Data) (others : HasOthers (codes "reply") value rest) where
  -- the rest tells no such request
  pub formless-rest : ((sent : Sent) → ¬ (IsSent rest sent)) → IsFormless value
  formless-rest none sent reply is = none sent (sent-beside rest value sent (others-back (codes "reply") value rest others) is.0)

  sent-value : (part : SentPart) → IsSentBy rest part → IsSentBy value part
  sent-value part is = (is.0, sent-beside value rest (sent_with is.0 part) others is.1, is.2)

  -- the member tells no reply
  pub formless-reply : (part : SentPart) (member : Option Data) → IsSentBy rest part → member ≡ get (codes "reply") value
      → None ≡ reply_by part.at member → IsFormless value
  formless-reply part member is is_member none sent reply both =
      let mine = (sent-value part is).1 in
      let same = same_Some part.at sent.at (sym mine.at ∙ both.0.at) in
      none-some reply (none ∙ ap (reply_by part.at) is_member ∙ ap (λ at. reply_of at value) same ∙ both.1)

  -- both are told
  pub both-sent : (part : SentPart) (member : Option Data) (reply : Option ToldReply) → IsSentBy rest part → member ≡ get (codes "reply") value
      → Some reply ≡ reply_by part.at member → IsBothSent value (part, reply)
  both-sent part member reply is is_member some = (sent-value part is, sym (some ∙ ap (reply_by part.at) is_member))
