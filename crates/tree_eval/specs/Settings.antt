-- What an expression is asked in, and what its value is on a request.
use Rattle.std.specs.Prelude.{◌≡◌, ℕ, Bool, List, Option}
use Rattle.edge_base.specs.declared.expression.Expr.{Expr}
use Rattle.edge_base.specs.declared.message.Request.{Request}
use Rattle.edge_base.specs.declared.message.Reply.{Reply}
use Rattle.edge_fields.specs.declared.value.Value.{Value}
use Rattle.list_store.specs.declared.part.ListPart.{ListPart}
use Rattle.list_store.specs.Listed.{TellsLists}
use Rattle.func_lib.specs.Functions.{function_of}
use Rattle.type_check.specs.Meaning.{Setting, value_of, is_met}

-- the functions of the language, a test that tells the lists, a request and its reply
abbrev pub setting_of : (List ℕ → Value → Bool) → Request → Option Reply → Setting
setting_of is_listed request reply =
    record { function = function_of; is_listed = is_listed; request = request; reply = reply }

-- the fact holds in each setting with these lists, this request and this reply
abbrev pub InEach : List ListPart → Request → Option Reply → (Setting → Type 0) → Type 0
InEach lists request reply Fact =
    (is_listed : List ℕ → Value → Bool) → TellsLists is_listed lists → Fact (setting_of is_listed request reply)

-- the expression has this value
abbrev pub IsValueOf : List ListPart → Request → Option Reply → Expr → Option Value → Type 0
IsValueOf lists request reply e found = InEach lists request reply (λ s. found ≡ value_of s e)

-- whether the expression is met
abbrev pub IsTruthOf : List ListPart → Request → Option Reply → Expr → Bool → Type 0
IsTruthOf lists request reply e found = InEach lists request reply (λ s. found ≡ is_met s e)
