-- What one line of a trace is: blank, a deployment, a request, or no item for a cause.
use Rattle.std.specs.Prelude.{◌≡◌, ℕ, Bool, true, false, ◌||◌, ◌==◌, nat_le, List, length, codes, Option, Some, None, is_some, IsUtf8}
use Rattle.std.specs.List.{list_all}
use Rattle.serde_json.specs.Data.{Data}
use Rattle.serde_json.specs.Read.{read}
use Rattle.serde_json.specs.Find.{get}
use Rattle.serde_json.specs.View.{view}
use Rattle.trace_form.specs.declared.item.Recorded.{Recorded}
use Rattle.trace_form.specs.declared.item.LineItem.{LineItem}
use Rattle.trace_form.specs.declared.item.LineItem.TheVariants as lineitem
use Rattle.trace_form.specs.declared.refusal.BadCause.{BadCause}
use Rattle.trace_form.specs.declared.refusal.BadCause.TheVariants as cause
use Rattle.trace_form.specs.declared.refusal.LineFault.{LineFault}
use Rattle.trace_form.specs.declared.refusal.LineFault.TheVariants as fault
use Rattle.trace_form.specs.Asked.{IsRecorded, IsNoRequest}
use Rattle.trace_form.specs.Sent.{IsSentRecorded, IsNoSent}
use Rattle.edge_base.specs.Bytes.{tab, carriage_return, space}

-- at most 1,048,576 bytes
abbrev pub is_short : List ℕ → Bool
is_short line = nat_le (length line) 1048576

-- spaces, tabs and CR alone
abbrev pub is_blank : List ℕ → Bool
is_blank line = list_all (λ byte. byte == space || byte == tab || byte == carriage_return) line

-- the text is UTF-8, and is this JSON value
abbrev pub IsJson : List ℕ → Data → Type 0
IsJson text value = IsUtf8 text × (read text ≡ Some value)

-- the text is no JSON, for this cause
abbrev pub IsNoJson : List ℕ → BadCause → Type 0
IsNoJson text why = (why ≡ cause.NotJson) × ((value : Data) → ¬ (IsJson text value))

-- the line is blank
abbrev pub IsBlank : List ℕ → Type 0
IsBlank line = (is_short line ≡ true) × (is_blank line ≡ true)

-- the line isn't too long and isn't blank
abbrev pub IsSolid : List ℕ → Type 0
IsSolid line = (is_short line ≡ true) × (is_blank line ≡ false)

-- the value of the member `deploy`
abbrev pub deployed_of : Data → Option Data
deployed_of value = get (codes "deploy") value

-- the value has its head and its body as they were sent, and then no other member of the head is looked at
abbrev pub has_raw : Data → Bool
has_raw value = is_some (get (codes "raw") value)

-- the value is judged as a request: it is no deployment
abbrev pub IsAsking : Data → Type 0
IsAsking value = deployed_of value ≡ None

-- the value is this request with this reply or none, told by its members or as it was sent
pub data IsAsked (value : Data) (recorded : Recorded) : Type 0 where
  told : has_raw value ≡ false → IsRecorded value recorded → IsAsked value recorded
  sent : has_raw value ≡ true → IsSentRecorded value recorded → IsAsked value recorded

-- the line isn't blank, and is a deployment of this value
pub record IsDeploy (line : List ℕ) (deployed : Data) : Type 0 where
  pub solid : IsSolid line
  pub value : Data
  pub json : IsJson line value
  pub deploy : deployed_of value ≡ Some deployed

-- the line isn't blank, and is this request with this reply or none
pub record IsAsk (line : List ℕ) (recorded : Recorded) : Type 0 where
  pub solid : IsSolid line
  pub value : Data
  pub json : IsJson line value
  pub asking : IsAsking value
  pub ask : IsAsked value recorded

-- why a value is no item: it is judged as a request, and tells none by its members or as it was sent
pub data IsNoValueItem (value : Data) (why : BadCause) : Type 0 where
  no_request : IsAsking value → has_raw value ≡ false → IsNoRequest value why → IsNoValueItem value why
  no_sent : IsAsking value → has_raw value ≡ true → IsNoSent value why → IsNoValueItem value why

-- why a line is no item, the first cause that applies: it is too long, it is no JSON, or its value is no item
pub data IsNoItem (line : List ℕ) (why : BadCause) : Type 0 where
  long : is_short line ≡ false → why ≡ cause.LongLine → IsNoItem line why
  no_json : IsSolid line → ((value : Data) → ¬ (IsJson line value)) → why ≡ cause.NotJson → IsNoItem line why
  no_value_item : IsSolid line → (value : Data) → IsJson line value → IsNoValueItem value why → IsNoItem line why

-- the value is what this item holds
abbrev pub IsValueItem : Data → LineItem → Type 0
IsValueItem value (lineitem.Deploy deployed) = deployed_of value ≡ Some (view deployed)
IsValueItem value (lineitem.Ask recorded) = IsAsking value × IsAsked value recorded
IsValueItem value lineitem.Blank = ⊥

-- the line is this item
abbrev pub IsItem : List ℕ → LineItem → Type 0
IsItem line (lineitem.Deploy deployed) = IsDeploy line (view deployed)
IsItem line (lineitem.Ask recorded) = IsAsk line recorded
IsItem line lineitem.Blank = IsBlank line

-- what a refusal says: the cause, if it gives one, is why something is no item
abbrev pub SaysWhy : (BadCause → Type 0) → LineFault → Type 0
SaysWhy IsWhy (fault.Bad why) = IsWhy why
SaysWhy IsWhy fault.Memory = Unit {0}
