use Rattle.std.proofs.Common.{◌≡◌, ◌∙◌, ◌-◌, ◌++◌, ◌∷◌, [], suc, length, ap, length-append, arith}
use Rattle.filter_compile.specs.Slots.{slots_of}
use Rattle.filter_compile.proofs.RunLemmas.{taken_more, without_more}
use Rattle.filter_compile.proofs.running.take_many.Goals as goal

pub taking-preserved : goal.taking-preserved
taking-preserved c =
    let put : c.push.new.self.items ≡ c.taking.senses.items ++ c.take_last.result ∷ [] = c.in_ok-push.ensures.items in
    let longer = ap length put ∙ length-append c.taking.senses.items (c.take_last.result ∷ []) in
    let short = c.taking-test.true in
    let len = c.len.ensures in
    let own = c.taking.senses.ok.0 in
    let next : c.args.count - length c.taking.senses.items ≡ suc (c.args.count - length c.push.new.self.items) = omega arith in
    record {
      front = taken_more c.taking.senses.items c.push.new.self.items c.take_last.result _ _ (slots_of c.taking.slots) (slots_of c.take_last.new.slots) _ put next
          c.taking.invariant.front c.take_last.ensures.value c.take_last.ensures.others;
      rest = without_more _ _ (slots_of c.taking.slots) (slots_of c.take_last.new.slots) _ next c.taking.invariant.rest c.take_last.ensures.others;
    }
