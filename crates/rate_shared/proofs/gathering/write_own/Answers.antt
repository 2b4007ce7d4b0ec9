use Rattle.std.proofs.Common.{rules, ◌≡◌, ◌<◌, length, slice_index_or, sym, ap, ◌∙◌, subst, arith, length-set, take_all}
use Rattle.rate_shared.specs.Close.{has_caller}
use Rattle.rate_shared.proofs.CloseLemmas.{writes_own}
use Rattle.rate_shared.proofs.gathering.write_own.Goals as goal

pub loop-seen-preserved : goal.loop-seen-preserved
loop-seen-preserved c =
    let inv = c.loop-seen.invariant in
    let own = c.loop-seen.own.items in
    let seens = c.args.seens.now in
    let i = c.loop-seen.seen-index in
    let seen = c.seen-item.result in
    let near : i < length seens = search rules in
    let there : slice_index_or seens i seen ≡ seen = search rules in
    let within : seen.caller < length own = search rules in
    record {
      count = length-set own seen.caller seen.taken ∙ inv.count;
      own = λ f all. writes_own own seens i seen f near there within (subst (λ s. s.taken ≡ f s.caller) there (all i seen near)) (inv.own f all);
    }

pub returns-clause-own : goal.returns-clause-own
returns-clause-own c =
    let seens = c.args.seens.now in
    let i = c.loop-seen.seen-index in
    let ended : length seens ≡ i = search rules in
    λ f all k has. c.loop-seen.invariant.own f all k (ap (has_caller k) (take_all i seens (search rules)) ∙ has)
