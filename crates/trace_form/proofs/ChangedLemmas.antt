-- Headers count as changed exactly where they differ.
use Rattle.std.proofs.Common.{◌≡◌, ap, refl, bytes_eq}
use Rattle.std.specs.Bool.{Decides}
use Rattle.std.proofs.lemmas.Bool.Decides.{Decides-and}
use Rattle.std.proofs.lemmas.Slice.Eq.{bytes_eq-Decides, slice_eq-Decides}
use Rattle.edge_base.specs.declared.message.Header.{Header}
use Rattle.trace_form.specs.Line.{is_same_header, are_same_headers}
use Rattle.trace_form.specs.Changed.{ChangeIsADifference}

same_header-Decides : (a b : Header) → Decides (is_same_header a b) (a ≡ b)
same_header-Decides a b =
    let parts = Decides-and (bytes_eq a.name b.name) (bytes_eq a.value b.value) (bytes_eq-Decides a.name b.name) (bytes_eq-Decides a.value b.value) in
    (λ both. same a b (parts.0 both).0 (parts.0 both).1, λ is. parts.1 (ap (λ h. h.name) is, ap (λ h. h.value) is)) where
      same : (a b : Header) → a.name ≡ b.name → a.value ≡ b.value → a ≡ b
      same a b name value = λ i. record { name = name i; value = value i }

pub change_is_a_difference : ChangeIsADifference
change_is_a_difference before after = slice_eq-Decides same_header-Decides before after (are_same_headers before after) refl
