use Rattle.std.proofs.Common.{◌≡◌, ◌∷◌, [], ◌++◌, ◌-◌, ◌%◌, ◌<◌, length, slice_index_or, refl, ap, arith, length-append, mod-lt}
use Rattle.edge_main.proofs.BatchLemmas.{line-there, taken-one, taken-all, given-one}
use Rattle.edge_main.proofs.batch.take_lines.Goals as goal

pub unreachable-requires : goal.unreachable-requires
unreachable-requires c =
    let now = c.lines.workers in
    let place = (c.lines.left - 1) % length now in
    let d = c.index-workers-place.result in
    let within : place < length now = mod-lt (c.lines.left - 1) (omega arith) in
    let some =
    line-there c.lines.left (c.lines.left - 1) place c.args.workers.now now c.lines.lines.items d c.lines.invariant.taken c.lines-test.true refl refl within in
    absurd (omega (arith, some, (slice_index_or now place d).lines.ok.0, c.in_default.ensures.cases.0))

pub lines-preserved : goal.lines-preserved
lines-preserved c =
    let now = c.lines.workers in
    let place = (c.lines.left - 1) % length now in
    let d = c.index-workers-place.result in
    let within : place < length now = mod-lt (c.lines.left - 1) (omega arith) in
    let pushed : c.push.new.self.items ≡ c.lines.lines.items ++ c.in-Some.line ∷ [] = c.in_ok-push.ensures.items in
    record {
      taken =
          taken-one c.lines.left (c.lines.left - 1) place c.args.workers.now now c.lines.lines.items d c.lines.invariant.taken c.lines-test.true refl refl
          within _ c.in-Some.line c.push.new.self.items c.in-Some.ensures.items pushed;
      given =
          given-one c.args.workers.now now place d _ c.lines.invariant.given within (record { number = refl; pass = refl; jobs = refl; fault = refl });
      dealt = omega (arith, ap length pushed, length-append c.lines.lines.items (c.in-Some.line ∷ []));
    }

pub returns : goal.returns
returns c =
    let all =
    taken-all c.lines.left c.args.dealt c.args.workers.now c.lines.workers c.lines.lines.items c.lines.invariant.taken (omega arith)
    c.lines.invariant.dealt in
    record { lines = all.0; none = all.1; given = c.lines.invariant.given }
