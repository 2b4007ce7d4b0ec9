-- What was read and checked is built of its text.
use Rattle.std.proofs.Common.{◌≡◌, List, [], ◌∷◌, ◌++◌, ℕ, Some, None, Result, Ok, Err, IfOk, sym, subst, ap, ◌∙◌}
use Rattle.std.specs.List.{AllByRecursion}
use Rattle.edge_base.specs.declared.expression.Expr.{Expr}
use Rattle.expr_parser.specs.Parsed.{IsAnswer}
use Rattle.type_check.specs.declared.fault.Place.{Place}
use Rattle.type_check.specs.declared.fault.Place.TheVariants as stand
use Rattle.type_check.specs.declared.typed.Typed.{Typed}
use Rattle.type_check.specs.Places.{findings_of}
use Rattle.type_check.specs.Trees.{tree_of}
use Rattle.ruleset_model.specs.declared.limit.Characteristic.{Characteristic}
use Rattle.ruleset_model.specs.declared.limit.Counting.{Counting}
use Rattle.ruleset_model.specs.Built.{speaks_of_reply}
use Rattle.ruleset_model.specs.FilterParts.{FilterParts}
use Rattle.config_read.specs.declared.judging.Unfit.{Unfit}
use Rattle.config_read.specs.Judged.{ChecksTree}
use Rattle.config_read.specs.Filters.{Lists, IsTypedOf, IsReadAndTyped, IsFilterOf, IsCountingBuilt, IsCharacteristicBuilt}

-- what was checked of what a text is read to
pub typed_read : {A : Type 0} (typed_in : A → Typed) (lists : Lists) (at : Place) (text : List ℕ) (e : Expr) (r : Result A Unfit)
    → IsAnswer text (Ok e) → ChecksTree (findings_of lists at e) r → IfOk r (λ made. IsTypedOf lists at e (typed_in made))
    → IfOk r (λ made. IsReadAndTyped lists at text (typed_in made))
typed_read typed_in lists at text e (Ok made) read sound typed = record { expression = e; is_read = read; is_sound = sound; is_typed = typed }
typed_read typed_in lists at text e (Err f) read sound typed = tt

-- a filter with the parts of what was checked
pub filter_built : (lists : Lists) (at : Place) (text : List ℕ) (typed : Typed) (f : FilterParts) → IsReadAndTyped lists at text typed
    → f.tree ≡ tree_of typed.root → f.kind ≡ typed.kind → f.lists ≡ typed.lists → IsFilterOf lists at text f
filter_built lists at text typed f read tree kind same = record {
  expression = read.expression;
  is_read = read.is_read;
  is_sound = read.is_sound;
  kind = read.is_typed.kind ∙ ap Some (sym kind);
  tree = tree ∙ read.is_typed.tree;
  same_lists = same ∙ read.is_typed.same_lists;
}

-- what is counted, and whether that speaks of a reply
pub counting_built : (lists : Lists) (text : List ℕ) (typed : Typed) (reply : _) (made : Counting) → IsReadAndTyped lists stand.Count text typed
    → reply ≡ speaks_of_reply (tree_of typed.root) → made.filter.tree ≡ tree_of typed.root → made.filter.kind ≡ typed.kind
    → made.filter.lists ≡ typed.lists → made.source ≡ text → made.reply ≡ reply → IsCountingBuilt lists made
counting_built lists text typed reply made read says tree kind same source kept = record {
  filter = subst (λ (t : List ℕ). IsFilterOf lists stand.Count t made.filter) (sym source) (filter_built lists stand.Count text typed made.filter read tree kind same);
  reply = kept ∙ says ∙ ap speaks_of_reply (sym tree);
}

-- the text is kept beside its filter
pub source_kept : (lists : Lists) (at : Place) (text kept : List ℕ) (f : FilterParts) → IsFilterOf lists at text f → kept ≡ text → IsFilterOf lists at kept f
source_kept lists at text kept f built same = subst (λ (t : List ℕ). IsFilterOf lists at t f) (sym same) built

-- a characteristic of a text
pub characteristic_built : (lists : Lists) (text : List ℕ) (typed : Typed) (made : Characteristic) → IsReadAndTyped lists stand.Characteristic text typed
    → made.filter.tree ≡ tree_of typed.root → made.filter.kind ≡ typed.kind → made.filter.lists ≡ typed.lists → made.source ≡ text
    → IsCharacteristicBuilt lists made
characteristic_built lists text typed made read tree kind same source =
    source_kept lists stand.Characteristic text made.source made.filter (filter_built lists stand.Characteristic text typed made.filter read tree kind same) source

all_and_last : {X : Type 0} (Fact : X → Type 0) (xs : List X) (x : X) → AllByRecursion Fact xs → Fact x → AllByRecursion Fact (xs ++ x ∷ [])
all_and_last Fact [] x all here = (here, tt)
all_and_last Fact (y ∷ ys) x all here = (all.0, all_and_last Fact ys x all.1 here)

-- a fact of each element, with one element more
pub all_more : {X : Type 0} (Fact : X → Type 0) (xs : List X) (x : X) (now : List X) → now ≡ xs ++ x ∷ [] → AllByRecursion Fact xs → Fact x → AllByRecursion Fact now
all_more Fact xs x now same all here = subst (AllByRecursion Fact) (sym same) (all_and_last Fact xs x all here)
