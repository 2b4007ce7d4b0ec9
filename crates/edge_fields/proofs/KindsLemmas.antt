-- When a field is missing, and which kind its value has.
use Rattle.std.proofs.Common.{◌≡◌, ◌↔◌, ℕ, zero, suc, true, List, [], ◌∷◌, map, All, Option, None, Some, Result, Ok, Err, IfOk, IfSome, refl, sym, subst, arith}
use Rattle.edge_base.specs.declared.message.Request.{Request}
use Rattle.edge_base.specs.declared.message.Reply.{Reply}
use Rattle.edge_fields.specs.declared.field_id.FieldId.{FieldId}
use Rattle.edge_fields.specs.declared.field_id.FieldId.TheVariants as id
use Rattle.edge_fields.specs.declared.kind.Basic.TheVariants as basic
use Rattle.edge_fields.specs.declared.value.Value.TheVariants as value
use Rattle.edge_fields.specs.Names.{field_kind, is_response}
use Rattle.edge_fields.specs.Fields.{field_of}
use Rattle.edge_fields.specs.Kinds.{HasBasic, HasKind}
use Rattle.edge_fields.proofs.MapsLemmas.{IsDistinct-map_of}

-- what holds of the value that is answered
pub IfOk-at : {A E : Type 0} (v : A) (P : A → Type 0) → P v → (r : Result A E) → IfOk r (λ x. x ≡ v) → IfOk r P
IfOk-at v P p (Ok x) h = subst P (sym h) p
IfOk-at v P p (Err e) h = tt

pub field_of-none : (request : Request) (reply : Option Reply) (x : FieldId) → (field_of request reply x ≡ None) ↔ ((is_response x ≡ true) × (reply ≡ None))
field_of-none request reply id.Host = (λ e. cc, λ h. cc h.0)
field_of-none request reply id.Cookie = (λ e. cc, λ h. cc h.0)
field_of-none request reply id.Referer = (λ e. cc, λ h. cc h.0)
field_of-none request reply id.UserAgent = (λ e. cc, λ h. cc h.0)
field_of-none request reply id.Method = (λ e. cc, λ h. cc h.0)
field_of-none request reply id.Uri = (λ e. cc, λ h. cc h.0)
field_of-none request reply id.Path = (λ e. cc, λ h. cc h.0)
field_of-none request reply id.Query = (λ e. cc, λ h. cc h.0)
field_of-none request reply id.FullUri = (λ e. cc, λ h. cc h.0)
field_of-none request reply id.Version = (λ e. cc, λ h. cc h.0)
field_of-none request reply id.Source = (λ e. cc, λ h. cc h.0)
field_of-none request reply id.Ssl = (λ e. cc, λ h. cc h.0)
field_of-none request reply id.Timestamp = (λ e. cc, λ h. cc h.0)
field_of-none request reply id.Headers = (λ e. cc, λ h. cc h.0)
field_of-none request reply id.HeaderNames = (λ e. cc, λ h. cc h.0)
field_of-none request reply id.HeaderValues = (λ e. cc, λ h. cc h.0)
field_of-none request reply id.Args = (λ e. cc, λ h. cc h.0)
field_of-none request reply id.ArgNames = (λ e. cc, λ h. cc h.0)
field_of-none request reply id.ArgValues = (λ e. cc, λ h. cc h.0)
field_of-none request None id.ResponseCode = (λ e. (refl, refl), λ h. refl)
field_of-none request (Some given) id.ResponseCode = (λ e. cc, λ h. cc h.1)
field_of-none request None id.ResponseHeaders = (λ e. (refl, refl), λ h. refl)
field_of-none request (Some given) id.ResponseHeaders = (λ e. cc, λ h. cc h.1)

texts_are_texts : (texts : List (List ℕ)) → All (HasBasic basic.Text) (map value.Text texts)
texts_are_texts [] k d below = absurd (omega arith)
texts_are_texts (text ∷ texts) zero d below = (text, refl)
texts_are_texts (text ∷ texts) (suc k) d below = texts_are_texts texts k d (omega arith)

pub HasKind-field_of : (request : Request) (reply : Option Reply) (x : FieldId) → IfSome (field_of request reply x) (HasKind (field_kind x))
HasKind-field_of request reply id.Host = (_, refl)
HasKind-field_of request reply id.Cookie = (_, refl)
HasKind-field_of request reply id.Referer = (_, refl)
HasKind-field_of request reply id.UserAgent = (_, refl)
HasKind-field_of request reply id.Method = (_, refl)
HasKind-field_of request reply id.Uri = (_, refl)
HasKind-field_of request reply id.Path = (_, refl)
HasKind-field_of request reply id.Query = (_, refl)
HasKind-field_of request reply id.FullUri = (_, refl)
HasKind-field_of request reply id.Version = (_, refl)
HasKind-field_of request reply id.Source = (_, refl)
HasKind-field_of request reply id.Ssl = (_, refl)
HasKind-field_of request reply id.Timestamp = (_, refl)
HasKind-field_of request reply id.Headers = (_, IsDistinct-map_of _, refl)
HasKind-field_of request reply id.HeaderNames = (_, texts_are_texts _, refl)
HasKind-field_of request reply id.HeaderValues = (_, texts_are_texts _, refl)
HasKind-field_of request reply id.Args = (_, IsDistinct-map_of _, refl)
HasKind-field_of request reply id.ArgNames = (_, texts_are_texts _, refl)
HasKind-field_of request reply id.ArgValues = (_, texts_are_texts _, refl)
HasKind-field_of request None id.ResponseCode = tt
HasKind-field_of request (Some given) id.ResponseCode = (_, refl)
HasKind-field_of request None id.ResponseHeaders = tt
HasKind-field_of request (Some given) id.ResponseHeaders = (_, IsDistinct-map_of _, refl)
