use Rattle.std.proofs.Common.{◌≡◌, ◌∙◌, ◌-◌, length, drop, refl, sym, ap, subst, arith}
use Rattle.edge_outside.specs.Told.{Gave}
use Rattle.httparse.specs.Grammar.{HasNoRequest, NeverHasRequest}
use Rattle.http_front.specs.declared.causes.HeadFault.TheVariants as fault
use Rattle.http_front.specs.declared.places.Place.TheVariants as place
use Rattle.http_front.specs.Heads.{head_max, HasTooMany}
use Rattle.http_front.specs.Places.{place_behind, is_ended}
use Rattle.http_front.specs.Steps.{open_cause, LacksHead}
use Rattle.http_front.proofs.LinkLemmas.{where_ok, gave_none, gave_more, took_some, behind, lacks_bad, lacks_crowded, lacks_open, last_of}
use Rattle.http_front.proofs.PlaceLemmas.{none_yet, nothing_yet, place_on}
use Rattle.http_front.proofs.links.read_head.Goals as goal

pub reading-init : goal.reading-init
reading-init g c =
    let empty = c.requires.empty in
    record {
      gave = subst (Gave g.S.Source.left g.S.Source.taken c.args.source.now c.args.source.now) (sym empty)
          (gave_none g.S.Source.left g.S.Source.taken c.args.source.now);
      short = omega (arith, ap length empty);
      none = nothing_yet c.args.came.now empty;
      place = sym (ap (place_behind place.Front) empty);
      room = c.requires.room;
      kept = refl;
      stays = refl;
    }

pub returns-in_err-count-clause-took : goal.returns-in_err-count-clause-took
returns-in_err-count-clause-took g c =
    let short = c.reading.invariant.short in
    took_some g.S.Source.left g.S.Source.taken c.args.source.now c.reading.source c.read_more.new.source c.reading.came
    (head_max - length c.reading.came) head_max c.reading.invariant.gave c.read_more.ensures.took (omega (arith, short))

pub returns-in-Whole-clause-gave : goal.returns-in-Whole-clause-gave
returns-in-Whole-clause-gave g c =
    let took = c.in_ok-count.ensures.ok in
    gave_more g.S.Source.left g.S.Source.taken c.args.source.now c.reading.source c.read_more.new.source c.reading.came
    c.read_more.new.came took.0 c.reading.invariant.gave took.1

pub returns-in-Whole-clause-took : goal.returns-in-Whole-clause-took
returns-in-Whole-clause-took g c =
    let took = c.in_ok-count.ensures.ok in (
      c.read_more.new.came,
      gave_more g.S.Source.left g.S.Source.taken c.args.source.now c.reading.source c.read_more.new.source c.reading.came
          c.read_more.new.came took.0 c.reading.invariant.gave took.1,
      c.in_ok-count.ensures.within,
    )

pub returns-in-Bad-clause-lacks : goal.returns-in-Bad-clause-lacks
returns-in-Bad-clause-lacks g c text told =
    let took = c.in_ok-count.ensures.ok in
    let gave = gave_more g.S.Source.left g.S.Source.taken c.args.source.now c.reading.source c.read_more.new.source c.reading.came
    c.read_more.new.came took.0 c.reading.invariant.gave took.1 in
    let left = behind (g.S.Source.left c.args.source.now) (g.S.Source.left c.read_more.new.source) text c.read_more.new.came told gave.0 in
    lacks_bad text c.read_more.new.came left.0 left.2 c.in_ok-count.ensures.within
    (subst NeverHasRequest c.bytes-then-is_time.ensures c.in-Bad.ensures)

pub returns-in-Bad-clause-took : goal.returns-in-Bad-clause-took
returns-in-Bad-clause-took g c =
    let took = c.in_ok-count.ensures.ok in (
      c.read_more.new.came,
      gave_more g.S.Source.left g.S.Source.taken c.args.source.now c.reading.source c.read_more.new.source c.reading.came
          c.read_more.new.came took.0 c.reading.invariant.gave took.1,
      c.in_ok-count.ensures.within,
    )

pub returns-in-Crowded-clause-lacks : goal.returns-in-Crowded-clause-lacks
returns-in-Crowded-clause-lacks g c text told =
    let took = c.in_ok-count.ensures.ok in
    let gave = gave_more g.S.Source.left g.S.Source.taken c.args.source.now c.reading.source c.read_more.new.source c.reading.came
    c.read_more.new.came took.0 c.reading.invariant.gave took.1 in
    let left = behind (g.S.Source.left c.args.source.now) (g.S.Source.left c.read_more.new.source) text c.read_more.new.came told gave.0 in
    lacks_crowded text c.read_more.new.came left.0 left.2 c.in_ok-count.ensures.within
    (subst HasTooMany c.bytes-then-is_time.ensures c.in-Crowded.ensures)

pub returns-in-Crowded-clause-took : goal.returns-in-Crowded-clause-took
returns-in-Crowded-clause-took g c =
    let took = c.in_ok-count.ensures.ok in (
      c.read_more.new.came,
      gave_more g.S.Source.left g.S.Source.taken c.args.source.now c.reading.source c.read_more.new.source c.reading.came
          c.read_more.new.came took.0 c.reading.invariant.gave took.1,
      c.in_ok-count.ensures.within,
    )

pub returns-then-count-eq0-clause-lacks : goal.returns-then-count-eq0-clause-lacks
returns-then-count-eq0-clause-lacks g c text told =
    let took = c.in_ok-count.ensures.ok in
    let came = c.read_more.new.came in
    let gave = gave_more g.S.Source.left g.S.Source.taken c.args.source.now c.reading.source c.read_more.new.source c.reading.came
    c.read_more.new.came took.0 c.reading.invariant.gave took.1 in
    let left = behind (g.S.Source.left c.args.source.now) (g.S.Source.left c.read_more.new.source) text came told gave.0 in
    let last = last_of (length came) (g.S.Source.left c.read_more.new.source) left.0 left.1 (c.in_ok-count.ensures.end c.if-count-eq0.true) in
    let lacks = lacks_open text came left.0 left.2 c.in_ok-count.ensures.within last
    (subst HasNoRequest c.bytes-then-is_time.ensures c.in-Open.ensures) in
    subst (LacksHead text) (sym (c.open_cause.ensures ∙ ap open_cause c.len-looked.ensures)) lacks

pub returns-then-count-eq0-clause-took : goal.returns-then-count-eq0-clause-took
returns-then-count-eq0-clause-took g c =
    let took = c.in_ok-count.ensures.ok in (
      c.read_more.new.came,
      gave_more g.S.Source.left g.S.Source.taken c.args.source.now c.reading.source c.read_more.new.source c.reading.came
          c.read_more.new.came took.0 c.reading.invariant.gave took.1,
      c.in_ok-count.ensures.within,
    )

pub reading-preserved : goal.reading-preserved
reading-preserved g c =
    let took = c.in_ok-count.ensures.ok in
    let came = c.read_more.new.came in
    let place : c.behind-place.result ≡ place_behind place.Front came =
    place_on c.reading.place c.behind-place.result c.reading.came came took.0 _ c.len-before.result took.1.0 c.len-before.ensures
    (c.split_at.ensures.back ∙ ap (drop c.len-before.result) c.bytes.ensures) c.reading.invariant.place c.behind-place.ensures in
    record {
      gave = gave_more g.S.Source.left g.S.Source.taken c.args.source.now c.reading.source c.read_more.new.source c.reading.came
          came took.0 c.reading.invariant.gave took.1;
      short = c.in_ok-count.ensures.within;
      none = none_yet came (sym (ap is_ended place) ∙ (c.is_time.ensures c.if-is_time.false).0);
      place = place;
      room = c.reading.invariant.room;
      kept = where_ok _ _ _ c.in_ok-count.count fault.ReadFault c.in_ok-count.ensures.kept ∙ c.reading.invariant.kept;
      stays = c.read_more.ensures.stays ∙ c.reading.invariant.stays;
    }

pub reading-preserved-else-count-eq0 : goal.reading-preserved-else-count-eq0
reading-preserved-else-count-eq0 g c =
    let took = c.in_ok-count.ensures.ok in
    let came = c.read_more.new.came in
    record {
      gave = gave_more g.S.Source.left g.S.Source.taken c.args.source.now c.reading.source c.read_more.new.source c.reading.came
          came took.0 c.reading.invariant.gave took.1;
      short = c.in_ok-count.ensures.within;
      none = subst HasNoRequest c.bytes-then-is_time.ensures c.in-Open.ensures;
      place = place_on c.reading.place c.behind-place.result c.reading.came came took.0 _ c.len-before.result took.1.0 c.len-before.ensures
          (c.split_at.ensures.back ∙ ap (drop c.len-before.result) c.bytes.ensures) c.reading.invariant.place c.behind-place.ensures;
      room = c.look.auto.places ∙ c.reading.invariant.room;
      kept = where_ok _ _ _ c.in_ok-count.count fault.ReadFault c.in_ok-count.ensures.kept ∙ c.reading.invariant.kept;
      stays = c.read_more.ensures.stays ∙ c.reading.invariant.stays;
    }
