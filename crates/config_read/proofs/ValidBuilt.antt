-- What is built of its text, a text of a document, is what a valid configuration has there.
use Rattle.std.proofs.Common.{◌≡◌, ℕ, List, [], ◌∷◌, map, Option, None, Some, Ok, option_map, option_and_then, IfSome, IsUtf8, codes, refl, sym, ap, ◌∙◌, subst}
use Rattle.std.specs.List.{All, AllByRecursion}
use Rattle.serde_json.specs.Data.{Data, null, boolean, number, string, array, object}
use Rattle.serde_json.specs.Find.{get, as_str}
use Rattle.edge_base.specs.declared.expression.Expr.{Expr}
use Rattle.expr_parser.specs.Parsed.{IsAnswer}
use Rattle.list_store.specs.declared.part.ListPart.{ListPart}
use Rattle.list_store.specs.Listed.{list_kinds_of}
use Rattle.type_check.specs.declared.fault.Place.{Place}
use Rattle.ruleset_model.specs.declared.dynamic.Dynamic.{Dynamic}
use Rattle.ruleset_model.specs.declared.dynamic.Dynamic.TheVariants as dynamic
use Rattle.ruleset_model.specs.declared.phase.Phase.{Phase}
use Rattle.ruleset_model.specs.declared.rewrite.Operation.{Operation}
use Rattle.ruleset_model.specs.declared.rewrite.Operation.TheVariants as operation
use Rattle.ruleset_model.specs.Acts.{IsDynamicValid, IsOperationValid}
use Rattle.ruleset_model.specs.Built.{IsReadTo, IsBuilt}
use Rattle.ruleset_model.specs.Data.{DynamicData, fixed, computed, OperationData, sets, adds, removes, dynamic_data, operation_data}
use Rattle.ruleset_model.specs.FilterParts.{FilterParts}
use Rattle.ruleset_model.specs.Phases.{value_place}
use Rattle.config_read.specs.Members.{text, member}
use Rattle.config_read.specs.Values.{dynamic_of, dynamic_at}
use Rattle.config_read.specs.Filters.{IsFilterOf, IsDynamicBuilt, IsOperationBuilt}
use Rattle.config_read.proofs.FormedLemmas.{IsFormed, get_formed, member_formed, text_utf8}

-- what is read to an expression has at most 4,096 bytes, and its terminals derive it
read_to : (text : List ℕ) (e : Expr) → IsAnswer text (Ok e) → IsReadTo text e
read_to text e read = record {
  few = read.2.few;
  tokens = read.0;
  terminals = read.1;
  is_cut = read.2.is_cut;
  are_terminals = read.2.are_terminals;
  derives = read.3;
  shallow = read.4;
}

pub built_of : (lists : List ListPart) (at : Place) (text : List ℕ) (filter : FilterParts) → IsUtf8 text
    → IsFilterOf (list_kinds_of lists) at text filter → IsBuilt lists at text filter
built_of lists at text filter is_text built = record {
  is_text = is_text;
  expression = built.expression;
  is_read = read_to text built.expression built.is_read;
  is_sound = built.is_sound;
  kind = built.kind;
  tree = built.tree;
  same_lists = built.same_lists;
}

-- ---- dynamic values

abbrev pub IsDynamicText : DynamicData → Type 0
IsDynamicText (fixed text) = IsUtf8 text
IsDynamicText (computed text) = IsUtf8 text

pub dynamic_valid : (lists : List ListPart) (phase : Phase) (value : Dynamic) → IsDynamicText (dynamic_data value)
    → IsDynamicBuilt (list_kinds_of lists) (value_place phase) value → IsDynamicValid lists phase value
dynamic_valid lists phase (dynamic.Fixed text) is_text built = is_text
dynamic_valid lists phase (dynamic.Computed filter source) is_text built = built_of lists (value_place phase) source filter is_text built

source_text : (d : Data) → IsFormed d → IfSome (as_str d) IsUtf8
source_text null formed = tt
source_text (boolean b) formed = tt
source_text (number n) formed = tt
source_text (string text) formed = formed
source_text (array ds) formed = tt
source_text (object ms) formed = tt

said_text : (found : Option Data) → IfSome found IsFormed → IfSome (option_and_then as_str found) IsUtf8
said_text None formed = tt
said_text (Some d) formed = source_text d formed

either_text : (source : Option (List ℕ)) (written : List ℕ) → IfSome source IsUtf8 → IsUtf8 written → IsDynamicText (dynamic_of source written)
either_text None written said is_text = is_text
either_text (Some source) written said is_text = said

pub dynamic_text : (d : Data) → IsFormed d → IsDynamicText (dynamic_at d)
dynamic_text d formed =
    either_text (option_and_then as_str (get (codes "expression") d)) (text (codes "value") d)
    (said_text (get (codes "expression") d) (get_formed (codes "expression") d formed)) (text_utf8 (codes "value") d formed)

-- ---- what is done to headers

abbrev pub IsOperationText : OperationData → Type 0
IsOperationText (sets value) = IsDynamicText value
IsOperationText (adds value) = IsDynamicText value
IsOperationText removes = Unit {0}

pub operation_valid : (lists : List ListPart) (phase : Phase) (done : Operation) → IsOperationText (operation_data done)
    → IsOperationBuilt (list_kinds_of lists) (value_place phase) done → IsOperationValid lists phase done
operation_valid lists phase (operation.Set value) is_text built = dynamic_valid lists phase value is_text built
operation_valid lists phase (operation.Add value) is_text built = dynamic_valid lists phase value is_text built
operation_valid lists phase operation.Remove is_text built = tt
