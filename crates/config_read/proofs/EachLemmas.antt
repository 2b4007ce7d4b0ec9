-- Elements that are read one after the other.
use Rattle.std.proofs.Common.{◌≡◌, ℕ, ◌+◌, ◌<◌, List, [], ◌∷◌, ◌++◌, length, map, drop, get_or, Option, None, Some, refl, sym, ap, subst, ◌∙◌, append_assoc, inl, inr}
use Rattle.std.proofs.lemmas.List.{drop_more}
use Rattle.serde_json.specs.Data.{Data}
use Rattle.serde_json.specs.View.{view}
use Rattle.serde_json.specs.declared.value.Value.{Value}
use Rattle.config_read.specs.declared.fault.ConfigFault.{ConfigFault}
use Rattle.config_read.specs.declared.fault.ConfigFault.TheVariants as fault
use Rattle.config_read.specs.Refusals.{Refusal, Table, ◌▸◌, each, Refuses}

-- whatever the elements that are left come to, the whole comes to
pub record Goes {D X : Type 0} (table : List X → D → Table) (stands : D → X) (earlier : List X) (left : List D)
    (whole : Table) : Type 0 where
  pub rest : (o : Option Refusal) → each table stands earlier left o → whole o

-- the second part is what both come to, where the first refuses nothing
behind : (a b : Table) (o : Option Refusal) → a None → b o → (a ▸ b) o
behind a b None passed more = (passed, more)
behind a b (Some refused) passed more = inr (passed, more)

-- an element that is passed
pub goes_on : {D X : Type 0} (table : List X → D → Table) (stands : D → X) (earlier : List X) (d : D) (left : List D) (whole : Table)
    → Goes table stands earlier (d ∷ left) whole → table earlier d None → Goes table stands (earlier ++ stands d ∷ []) left whole
goes_on table stands earlier d left whole goes passed = record {
  rest = λ o more. goes.rest o (behind (table earlier d) (each table stands (earlier ++ stands d ∷ []) left) o passed more);
}

-- an element that is refused
pub goes_wrong : {D X : Type 0} (table : List X → D → Table) (stands : D → X) (earlier : List X) (d : D) (left : List D) (whole : Table) (e : ConfigFault)
    → Goes table stands earlier (d ∷ left) whole → Refuses e (table earlier d) → Refuses e whole
goes_wrong table stands earlier d left whole (fault.Refused place cause) goes refused = goes.rest (Some (record { place = place; cause = cause })) (inl refused)
goes_wrong table stands earlier d left whole fault.Memory goes refused = tt

-- no element is left
pub goes_done : {D X : Type 0} (table : List X → D → Table) (stands : D → X) (earlier : List X) (whole : Table) → Goes table stands earlier [] whole → whole None
goes_done table stands earlier whole goes = goes.rest None refl

-- ---- elements that are values of JSON

-- the element here, and those behind it
here_and_behind : (values : List Value) (i : ℕ) (value : Value) → i < length values → value ≡ get_or values i value
    → drop i values ≡ value ∷ drop (i + 1) values
here_and_behind values i value below is =
    drop_more values i value below ∙ ap (λ one. one ∷ drop (i + 1) values) (sym is)

-- one more of those that the elements stand for
pub one_further : {X : Type 0} (stands : Data → X) (values : List Value) (i : ℕ) (value : Value) (earlier now whole : List X)
    → i < length values → value ≡ get_or values i value → now ≡ earlier ++ stands (view value) ∷ []
    → earlier ++ map stands (map view (drop i values)) ≡ whole → now ++ map stands (map view (drop (i + 1) values)) ≡ whole
one_further stands values i value earlier now whole below is made before =
    ap (λ front. front ++ map stands (map view (drop (i + 1) values))) made
    ∙ append_assoc earlier (stands (view value) ∷ []) (map stands (map view (drop (i + 1) values)))
    ∙ sym (ap (λ left. earlier ++ map stands (map view left)) (here_and_behind values i value below is))
    ∙ before

-- one more that is passed
pub goes_further : {X : Type 0} (table : List X → Data → Table) (stands : Data → X) (values : List Value) (i : ℕ) (value : Value) (earlier now : List X)
    (whole : Table) → i < length values → value ≡ get_or values i value → now ≡ earlier ++ stands (view value) ∷ []
    → Goes table stands earlier (map view (drop i values)) whole → table earlier (view value) None
    → Goes table stands now (map view (drop (i + 1) values)) whole
goes_further table stands values i value earlier now whole below is made goes passed =
    subst (λ front. Goes table stands front (map view (drop (i + 1) values)) whole) (sym made)
    (goes_on table stands earlier (view value) (map view (drop (i + 1) values)) whole
    (subst (λ left. Goes table stands earlier (map view left) whole) (here_and_behind values i value below is) goes) passed)
