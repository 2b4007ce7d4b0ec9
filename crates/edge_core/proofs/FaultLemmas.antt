-- What a refusal that `?` hands on is.
use Rattle.std.specs.Prelude.{IfErr}
use Rattle.std.proofs.Common.{◌≡◌, Result, Ok, Err, IsErrAnd, IsErrOf, IfOk, OnOk, refl, sym, ap, subst, ◌∙◌}

pub if_err_from : {A E : Type 0} (r : Result A E) (x : E) (P : E → Type 0) → IsErrAnd r (λ y. y ≡ x) → P x → IfErr r P
if_err_from (Ok value) x P from held = tt
if_err_from (Err y) x P from held = let same : y ≡ x = from in subst P (sym same) held

-- it is this fault exactly where the one that was handed on is
pub fault_is : {A E : Type 0} (r : Result A E) (x e : E) → IsErrAnd r (λ y. y ≡ x) → IsErrOf r e → x ≡ e
fault_is (Ok value) x e from is = absurd (cc)
fault_is (Err y) x e from is = let same : y ≡ x = from in cc

pub fault_from : {A E : Type 0} (r : Result A E) (x e : E) → IsErrAnd r (λ y. y ≡ x) → x ≡ e → IsErrOf r e
fault_from (Ok value) x e from is = absurd from
fault_from (Err y) x e from is = let same : y ≡ x = from in ap Err (same ∙ is)

-- what an Ok says, said in another way
pub if_ok_by : {A E : Type 0} (r : Result A E) (P : A → Type 0) (C : Type 0) (Q : A → Type 0) → ((x : A) → P x → C → Q x) → IfOk r P → OnOk r C → IfOk r Q
if_ok_by (Ok x) P C Q f holds also = f x holds also
if_ok_by (Err e) P C Q f holds also = tt
