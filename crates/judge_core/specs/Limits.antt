-- Whether a rule with a limit asks a step, by which key, and whether the step adds.
use Rattle.std.specs.Prelude.{ℕ, ℤ, ◌%◌, ◌^◌, Bool, false, not, ◌&&◌, List, [], ◌∷◌, ◌++◌, map, length, Option, None, Some}
use Rattle.std.specs.List.{concat}
use Rattle.std.specs.Int.{cast_unsigned, to_be_bytes, w32, w64, w128}
use Rattle.edge_base.specs.declared.address.Addr.TheVariants as addr
use Rattle.edge_base.specs.declared.rule_name.RuleName.{RuleName}
use Rattle.edge_fields.specs.declared.value.Value.{Value}
use Rattle.edge_fields.specs.declared.value.Value.TheOpen as open_value
use Rattle.edge_fields.specs.declared.value.Value.TheFolds.{fold-Value}
use Rattle.rate_plain.specs.KeyParts.{KeyParts}
use Rattle.ruleset_model.specs.declared.limit.Characteristic.{Characteristic}
use Rattle.ruleset_model.specs.declared.limit.Counting.{Counting}
use Rattle.ruleset_model.specs.declared.limit.Limit.{Limit}
use Rattle.judge_core.specs.Carried.{Carried}
use Rattle.judge_core.specs.Values.{Listed, value_on, is_true_on}

-- ---- the key

-- a value in a key: its tag, how many bytes follow in four bytes, and these
abbrev pub tagged : ℕ → List ℕ → List ℕ
tagged tag bytes = tag ∷ to_be_bytes w32 (length bytes % 2 ^ 32) ++ bytes

-- the eight bytes of a number, and the sixteen of an address of the sixth version
unfoldable pub number_bytes : ℤ → List ℕ
number_bytes number = to_be_bytes w64 (cast_unsigned w64 number)

unfoldable pub wide_bytes : ℕ → List ℕ
wide_bytes number = to_be_bytes w128 number

-- a value's bytes in a key, by those of its elements; no characteristic has a truth value or a map
abbrev pub tagged_step : open_value.Value-F (List ℕ) → List ℕ
tagged_step (open_value.Text text) = tagged 1 text
tagged_step (open_value.Num number) = tagged 2 (number_bytes number)
tagged_step (open_value.Addr (addr.V4 number)) = tagged 3 (to_be_bytes w32 number)
tagged_step (open_value.Addr (addr.V6 number)) = tagged 4 (wide_bytes number)
tagged_step (open_value.Array items) = tagged 5 (concat items)
tagged_step (open_value.Bool truth) = tagged 0 []
tagged_step (open_value.Map entries) = tagged 0 []

abbrev pub bytes_of_value : Option Value → List ℕ
bytes_of_value None = tagged 0 []
bytes_of_value (Some v) = fold-Value (List ℕ) tagged_step v

-- the bytes of an array are those of its elements
abbrev pub bytes_of_array : List Value → List ℕ
bytes_of_array values = tagged 5 (concat (map (λ v. bytes_of_value (Some v)) values))

-- the bytes of the value of a characteristic
abbrev pub bytes_on : Listed → Carried → Characteristic → List ℕ
bytes_on listed c one = bytes_of_value (value_on listed one.filter c)

-- the bytes of the values of some characteristics, one after the other
abbrev pub values_on : Listed → List Characteristic → Carried → List ℕ
values_on listed characteristics c = concat (map (bytes_on listed c) characteristics)

-- the key of a rule: its name, its limit's numbers, and the values of the characteristics
abbrev pub key_on : Listed → RuleName → Limit → Carried → KeyParts
key_on listed name limit c = record {
  rule = name;
  period = limit.period;
  threshold = limit.threshold;
  timeout = limit.timeout;
  values = values_on listed limit.characteristics c;
}

-- ---- the step

-- whether a rule counts by the reply
abbrev pub is_by_reply : Option Counting → Bool
is_by_reply None = false
is_by_reply (Some counting) = counting.reply

-- whether a step of the request adds: by the counting expression, or by the rule's condition where it has none; not
-- where it counts by the reply
abbrev pub adds_on : Listed → Option Counting → Bool → Carried → Bool
adds_on listed None holds c = holds
adds_on listed (Some counting) holds c = not counting.reply && is_true_on listed counting.filter c

-- whether a reply is counted
abbrev pub counts_reply : Listed → Option Counting → Carried → Bool
counts_reply listed None c = false
counts_reply listed (Some counting) c = counting.reply && is_true_on listed counting.filter c
