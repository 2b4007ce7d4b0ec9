use Rattle.std.proofs.Common.{rules, ◌≡◌, [], Some, ap, ◌∙◌}
use Rattle.std.proofs.lemmas.List.{nil_from_length}
use Rattle.std.proofs.lemmas.List.Elements.{All-pop}
use Rattle.rate_shared.specs.declared.seen.Seen.{Seen}
use Rattle.rate_shared.specs.Steps.{Sat}
use Rattle.rate_shared.specs.Hands.{SitsAt}
use Rattle.rate_shared.proofs.Kept.{joins_seats, looks_up}
use Rattle.rate_shared.proofs.GatherLemmas.{joined_first, joined_more, joined_lanes, gathered}
use Rattle.rate_shared.proofs.gathering.gather.Goals as goal

pub loop-seen-init : goal.loop-seen-init
loop-seen-init c =
    let board = c.args.board.now in
    let first = c.in-Some.first in
    let left = c.pop.new.self.items in
    let cut = c.in-Some.ensures.items in
    let both = All-pop (λ (seen : Seen). SitsAt board.table_id board.key seen.seat) c.args.seens.items left (Some first) cut c.requires.of in
    record { table = both.1.0; left = both.0; joined = joined_first board.key c.args.seens.items left first both.1.1 cut }

pub join_seat-requires : goal.join_seat-requires
join_seat-requires c =
    let board = c.args.board.now in
    let inv = c.loop-seen.invariant in
    let seen = c.in-Some-pop.seen in
    let both = All-pop (λ (s : Seen). SitsAt board.table_id board.key s.seat) c.loop-seen.seens.items c.pop-in-loop-seen.new.self.items (Some seen) c.in-Some-pop.ensures.items inv.left in
    (inv.table, both.1.0, ap (λ (m : Sat). m.1) seen.ready.idle, c.requires.table, joins_seats _ _ _ _ _)

pub loop-seen-preserved : goal.loop-seen-preserved
loop-seen-preserved c =
    let board = c.args.board.now in
    let inv = c.loop-seen.invariant in
    let seen = c.in-Some-pop.seen in
    let left = c.pop-in-loop-seen.new.self.items in
    let cut = c.in-Some-pop.ensures.items in
    let both = All-pop (λ (s : Seen). SitsAt board.table_id board.key s.seat) c.loop-seen.seens.items left (Some seen) cut inv.left in
    record {
      table = c.join_seat.ensures.0 ∙ inv.table;
      left = both.0;
      joined = joined_more board.key c.args.seens.items c.loop-seen.seens.items left seen c.loop-seen.seat.me c.join_seat.new.seat.me inv.joined cut c.join_seat.ensures.2;
    }

pub load-requires : goal.load-requires
load-requires c =
    let inv = c.loop-seen.invariant in
    (inv.table, c.requires.table, looks_up _ _ _ _ (joined_lanes c.args.board.now.key c.args.seens.items c.loop-seen.seens.items c.loop-seen.seat.me inv.joined))

pub returns : goal.returns
returns c =
    let left = c.loop-seen.seens.items in
    let none : left ≡ [] = nil_from_length left (search rules) in
    gathered c.args.board.now.key c.args.seens.items left c.loop-seen.seat.me c.load.new.seat.me c.load.result c.loop-seen.invariant.joined none c.load.ensures.2
