-- What is printed nests far less deep than JSON may.
use Rattle.std.proofs.Common.{◌≡◌, ◌≤◌, ◌+◌, ℕ, suc, Bool, true, false, List, [], ◌∷◌, map, max, Option, None, Some, option_map, refl, arith, zero-le, codes}
use Rattle.std.specs.Ordering.{match_ordering, nat_cmp}
use Rattle.std.specs.Cmp.Lexicographic.{slice_cmp}
use Rattle.std.specs.declared.cmp.Ordering.{Ordering}
use Rattle.std.specs.declared.cmp.Ordering.TheVariants.{Less, Equal, Greater}
use Rattle.serde_json.specs.Data.{Data, boolean, string, array, object, Items, item, no_items, Members, no_members, member, put, depth, items_depth, members_depth}
use Rattle.serde_json.specs.View.{items_of}
use Rattle.list_store.specs.declared.part.ListPart.{ListPart}
use Rattle.override_plan.specs.declared.overrides.Override.{Override}
use Rattle.override_plan.specs.declared.overrides.Overrides.{Overrides}
use Rattle.override_plan.specs.declared.plain.Plain.{Plain}
use Rattle.ruleset_model.specs.ConfigParts.{ConfigParts}
use Rattle.ruleset_model.specs.declared.act.Act.{Act}
use Rattle.ruleset_model.specs.declared.act.Act.TheVariants as act
use Rattle.ruleset_model.specs.declared.act.Redirect.{Redirect}
use Rattle.ruleset_model.specs.declared.dynamic.Dynamic.{Dynamic}
use Rattle.ruleset_model.specs.declared.dynamic.Dynamic.TheVariants as dynamic
use Rattle.ruleset_model.specs.declared.limit.Limit.{Limit}
use Rattle.ruleset_model.specs.declared.limit.Characteristic.{Characteristic}
use Rattle.ruleset_model.specs.declared.rewrite.HeaderRewrite.{HeaderRewrite}
use Rattle.ruleset_model.specs.declared.rewrite.Operation.{Operation}
use Rattle.ruleset_model.specs.declared.rewrite.Operation.TheVariants as operation
use Rattle.ruleset_model.specs.declared.rewrite.Rewrite.{Rewrite}
use Rattle.ruleset_model.specs.declared.rewrite.UriRewrite.{UriRewrite}
use Rattle.ruleset_model.specs.declared.ruleset.Rule.{Rule}
use Rattle.ruleset_model.specs.declared.ruleset.Ruleset.{Ruleset}
use Rattle.ruleset_model.specs.declared.skips.Skips.{Skips}
use Rattle.ruleset_model.specs.declared.verdict.Response.{Response}
use Rattle.config_read.specs.Printed.{put_some, put_all, put_override, plain_name, current_of, printed_list, printed_dynamic, printed_response, response_member, printed_phase, printed_skipped, printed_skips, printed_entry, printed_overrides, printed_execution, printed_uri, printed_change, printed_operation, printed_header, printed_headers, printed_rewrite, printed_redirect, printed_parameters, printed_limit, rule_members, printed_rule, printed_set, printed}

-- ---- objects and arrays

in_object : (ms : Members) (n : ℕ) → members_depth ms ≤ n → depth (object ms) ≤ suc n
in_object ms n h = omega arith

one_more : (name : List ℕ) (d : Data) (rest : Members) (n : ℕ) → depth d ≤ n → members_depth rest ≤ n → members_depth (member name d rest) ≤ n
one_more name d rest n h k = omega arith

chosen : (o : Ordering) (a b c : Members) (n : ℕ) → members_depth a ≤ n → members_depth b ≤ n → members_depth c ≤ n → members_depth (match_ordering o a b c) ≤ n
chosen Less a b c n p q r = p
chosen Equal a b c n p q r = q
chosen Greater a b c n p q r = r

one_put : (name : List ℕ) (d : Data) (rest : Members) (n : ℕ) → depth d ≤ n → members_depth rest ≤ n → members_depth (put name d rest) ≤ n
one_put name d no_members n h k = omega arith
one_put name d (member other e rest) n h k =
    chosen (slice_cmp nat_cmp name other) (member name d (member other e rest)) (member other d rest) (member other e (put name d rest)) n
    (omega arith) (omega arith) (omega (arith, one_put name d rest n h (omega arith)))

IsShallow : ℕ → Option Data → Type 0
IsShallow n None = Unit {0}
IsShallow n (Some d) = depth d ≤ n

some_put : (name : List ℕ) (o : Option Data) (rest : Members) (n : ℕ) → IsShallow n o → members_depth rest ≤ n → members_depth (put_some name o rest) ≤ n
unfolding IsShallow
some_put name None rest n h k = k
some_put name (Some d) rest n h k = one_put name d rest n h k

some_shallow : {X : Type 0} (print : X → Data) (n : ℕ) → ((x : X) → depth (print x) ≤ n) → (o : Option X) → IsShallow n (option_map print o)
unfolding IsShallow
some_shallow print n h None = tt
some_shallow print n h (Some x) = h x

items_shallow : {X : Type 0} (print : X → Data) (n : ℕ) → ((x : X) → depth (print x) ≤ n) → (xs : List X) → items_depth (items_of (map print xs)) ≤ n
items_shallow print n h [] = omega arith
items_shallow print n h (x ∷ xs) = let first = h x in let rest = items_shallow print n h xs in omega arith

in_array : {X : Type 0} (print : X → Data) (n : ℕ) → ((x : X) → depth (print x) ≤ n) → (xs : List X) → depth (array (items_of (map print xs))) ≤ suc n
in_array print n h xs = let all = items_shallow print n h xs in omega arith

all_put : {X : Type 0} (print : X → List ℕ × Data) (n : ℕ) → ((x : X) → depth ((print x).1) ≤ n) → (ms : Members) (xs : List X) → members_depth ms ≤ n
    → members_depth (put_all ms (map print xs)) ≤ n
all_put print n h ms [] k = k
all_put print n h ms (x ∷ xs) k = all_put print n h (put ((print x).0) ((print x).1) ms) xs (one_put ((print x).0) ((print x).1) ms n (h x) k)

text_flat : (text : List ℕ) → depth (string text) ≤ 0
text_flat text = omega arith

texts_shallow : (texts : List (List ℕ)) → depth (array (items_of (map string texts))) ≤ 1
texts_shallow texts = in_array string 0 text_flat texts

-- ---- what rules have

dynamic_shallow : (value : Dynamic) → depth (printed_dynamic value) ≤ 1
dynamic_shallow (dynamic.Fixed text) = omega arith
dynamic_shallow (dynamic.Computed built source) = omega arith

list_shallow : (part : ListPart) → depth (printed_list part) ≤ 2
unfolding printed_list
list_shallow part = let items = texts_shallow part.items in omega arith

response_shallow : (response : Response) → depth (response_member response) ≤ 2
response_shallow response = omega arith

current_shallow : (current : Bool) → IsShallow 2 (current_of current)
unfolding IsShallow
current_shallow true = omega arith
current_shallow false = tt

skips_shallow : (skips : Skips) → depth (printed_skips skips) ≤ 3
unfolding printed_skips
skips_shallow skips =
    let phases = in_array printed_phase 0 (λ p. omega arith) skips.phases in
    let rules = all_put printed_skipped 1 (λ entry. texts_shallow entry.1) no_members skips.rules (omega arith) in
    let rulesets = texts_shallow skips.rulesets in
    let beside : members_depth (member (codes "phases") (array (items_of (map printed_phase skips.phases)))
    (member (codes "rules") (object (put_all no_members (map printed_skipped skips.rules)))
    (member (codes "rulesets") (array (items_of (map string skips.rulesets))) no_members))) ≤ 2 = omega arith in
    let whole = some_put (codes "ruleset") (current_of skips.current) _ 2 (current_shallow skips.current) beside in
    in_object _ 2 whole

override_shallow : (said : Override) (rest : Members) (n : ℕ) → members_depth rest ≤ n → members_depth (put_override said rest) ≤ n
override_shallow said rest n h =
    some_put (codes "enabled") (option_map boolean said.enabled) _ n (some_shallow boolean n (λ b. omega arith) said.enabled)
    (some_put (codes "action") (option_map (λ given. string (plain_name given)) said.action) rest n
    (some_shallow (λ (given : Plain). string (plain_name given)) n (λ given. omega arith) said.action) h)

entry_shallow : (name : List ℕ) (entry : List ℕ × Override) → depth (printed_entry name entry) ≤ 1
unfolding printed_entry
entry_shallow name entry = in_object _ 0 (override_shallow entry.1 (member name (string entry.0) no_members) 0 (omega arith))

overrides_shallow : (overrides : Overrides) → depth (printed_overrides overrides) ≤ 3
unfolding printed_overrides
overrides_shallow overrides =
    let tags = in_array (printed_entry (codes "category")) 1 (entry_shallow (codes "category")) overrides.tags in
    let rules = in_array (printed_entry (codes "id")) 1 (entry_shallow (codes "id")) overrides.rules in
    in_object _ 2 (override_shallow overrides.whole _ 2 (omega arith))

uri_shallow : (uri : UriRewrite) → depth (printed_uri uri) ≤ 2
unfolding printed_uri
uri_shallow uri =
    in_object _ 1 (some_put (codes "query") (option_map printed_dynamic uri.query) _ 1 (some_shallow printed_dynamic 1 dynamic_shallow uri.query)
    (some_put (codes "path") (option_map printed_dynamic uri.path) no_members 1 (some_shallow printed_dynamic 1 dynamic_shallow uri.path) (omega arith)))

operation_shallow : (operation : Operation) → depth (printed_operation operation) ≤ 1
operation_shallow (operation.Set (dynamic.Fixed text)) = omega arith
operation_shallow (operation.Set (dynamic.Computed built source)) = omega arith
operation_shallow (operation.Add (dynamic.Fixed text)) = omega arith
operation_shallow (operation.Add (dynamic.Computed built source)) = omega arith
operation_shallow operation.Remove = omega arith

headers_shallow : (headers : List HeaderRewrite) → depth (printed_headers headers) ≤ 2
headers_shallow headers = in_object _ 1 (all_put printed_header 1 (λ header. operation_shallow header.operation) no_members headers (omega arith))

rewrite_shallow : (rewrite : Rewrite) → depth (printed_rewrite rewrite) ≤ 3
unfolding printed_rewrite
rewrite_shallow rewrite =
    in_object _ 2 (some_put (codes "uri") (option_map printed_uri rewrite.uri) _ 2 (some_shallow printed_uri 2 uri_shallow rewrite.uri)
    (some_put (codes "headers") (option_map printed_headers rewrite.headers) no_members 2 (some_shallow printed_headers 2 headers_shallow rewrite.headers) (omega arith)))

redirect_shallow : (redirect : Redirect) → depth (printed_redirect redirect) ≤ 3
unfolding printed_redirect
redirect_shallow redirect = let target = dynamic_shallow redirect.target_url in omega arith

parameters_shallow : (sets : List Ruleset) (a : Act) → IsShallow 4 (printed_parameters sets a)
unfolding IsShallow
parameters_shallow sets (act.Block None) = tt
parameters_shallow sets (act.Block (Some response)) = let whole = response_shallow response in omega arith
parameters_shallow sets (act.Challenge plain) = tt
parameters_shallow sets act.Log = tt
parameters_shallow sets (act.Skip skipped) = let whole = skips_shallow skipped in omega arith
parameters_shallow sets (act.Execute at overrides) = let whole = overrides_shallow overrides in omega arith
parameters_shallow sets (act.Rewrite rewrite) = let whole = rewrite_shallow rewrite in omega arith
parameters_shallow sets (act.Redirect redirect) = let whole = redirect_shallow redirect in omega arith

-- ---- rules, rulesets, the document

limit_shallow : (limit : Limit) → depth (printed_limit limit) ≤ 4
unfolding printed_limit
limit_shallow limit = let texts = texts_shallow (map (λ (one : Characteristic). one.source) limit.characteristics) in omega arith

rule_shallow : (sets : List Ruleset) (rule : Rule) → depth (printed_rule sets rule) ≤ 5
unfolding printed_rule
rule_shallow sets rule =
    let tags = texts_shallow rule.tags in
    let base : members_depth (rule_members rule) ≤ 4 = omega arith in
    in_object _ 4 (some_put (codes "action_parameters") (printed_parameters sets rule.act) _ 4 (parameters_shallow sets rule.act)
    (some_put (codes "ratelimit") (option_map printed_limit rule.limit) (rule_members rule) 4 (some_shallow printed_limit 4 limit_shallow rule.limit) base))

set_shallow : (sets : List Ruleset) (set : Ruleset) → depth (printed_set sets set) ≤ 7
unfolding printed_set
set_shallow sets set = let rules = in_array (printed_rule sets) 5 (rule_shallow sets) set.rules in omega arith

pub printed_shallow : (config : ConfigParts) → depth (printed config) ≤ 127
unfolding printed
printed_shallow config =
    let lists = in_array printed_list 2 list_shallow config.lists in
    let sets = in_array (printed_set config.rulesets) 7 (set_shallow config.rulesets) config.rulesets in
    omega arith
