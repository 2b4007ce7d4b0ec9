use Rattle.std.proofs.Common.{◌∙◌, ap}
use Rattle.std.specs.Option.{option_copied}
use Rattle.type_check.specs.Meaning.{spread}
use Rattle.type_check.specs.Trees.{test_of}
use Rattle.tree_eval.specs.Seen.{seen}
use Rattle.tree_eval.specs.Settings.{setting_of}
use Rattle.tree_eval.proofs.NodeLemmas.{sense-tests}
use Rattle.tree_eval.proofs.evaluator.tested.Goals as goal

pub returns-in_ok-tests-in-Spread-Some : goal.returns-in_ok-tests-in-Spread-Some
returns-in_ok-tests-in-Spread-Some c is_listed tells =
    let given = c.args.given.now in
    sense-tests (setting_of is_listed given.request.now (option_copied given.reply)) (test_of c.args.test.now) (seen c.args.of)
    c.in-Spread-Some.values c.as_slice.result.now c.in_ok-tests-in-Spread-Some.tests
    (ap seen c.in-Spread-Some.is ∙ ap spread c.in-Spread-Some.field-0-is) c.as_slice.ensures (c.in_ok-tests-in-Spread-Some.ensures is_listed tells)
