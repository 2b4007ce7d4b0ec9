use Rattle.std.proofs.Common.{◌≡◌, ◌++◌, [], Ok, Err, refl, sym, ap, subst, ◌∙◌, arith, length-append}
use Rattle.std.proofs.KnownBytes.{Appends-nil, Consumes-nil, Appends-trans, Consumes-trans}
use Rattle.edge_main.specs.declared.replay.RunFault.TheVariants as fault
use Rattle.edge_main.specs.Running.{status_of}
use Rattle.edge_main.specs.Spread.{first}
use Rattle.edge_main.specs.Spreading.{TurnOf}
use Rattle.edge_main.proofs.RunningLemmas.{took-input, judged-or-cut, long-status, same-fault}
use Rattle.edge_main.proofs.SpreadingLemmas.{front-none, idle-somewhere, progress-opening}
use Rattle.edge_main.proofs.spreading.spread_input.Goals as goal

pub returns-in_default-clause-ended : goal.returns-in_default-clause-ended
returns-in_default-clause-ended g c text told = front-none c.history_is_legal_step_by_step.ensures (g.K.Sink.got c.args.out.now) text

pub lines-init : goal.lines-init
lines-init g c =
    let opens = c.in-Ok.ensures in
    record {
      under_way = record {
        progress = λ text told. progress-opening c.in-Ok.spreading (g.S.Source.left c.args.input.now) (g.K.Sink.got c.args.out.now) text opens told;
        somewhere = idle-somewhere c.in-Ok.spreading.crew ([], first, opens.crew);
        room = omega (arith, opens.crew.lines, opens.weight);
        dealt = omega (arith, opens.crew.count);
        bytes = [];
        consumed = Consumes-nil (g.S.Source.left c.args.input.now);
        appended = Appends-nil (g.S.Source.taken c.args.input.now);
        counted = opens.taken;
      };
      input_kept = refl;
      out_kept = refl;
    }

pub lines-preserved : goal.lines-preserved
lines-preserved g c =
    let before = c.lines.invariant.under_way in
    let took = c.turn.ensures.took in
    let got = g.K.Sink.got c.args.out.now in
    let next = c.in-Ok-Next.is ∙ ap Ok c.in-Ok-Next.field-0-is in
    let new = c.turn.new.self in
    let goes = c.turn.ensures.next next in
    record {
      under_way = record {
        progress = λ text told.
            subst (λ t. TurnOf t new.crew new.reader (g.S.Source.left c.turn.new.input) got (g.K.Sink.got c.turn.new.out) new.pending text) next
            (c.turn.ensures.turn got text (before.progress text told));
        somewhere = goes.0.somewhere;
        room = goes.0.room;
        dealt = goes.1;
        bytes = before.bytes ++ took.bytes;
        consumed = Consumes-trans (g.S.Source.left c.args.input.now) (g.S.Source.left c.lines.input) (g.S.Source.left c.turn.new.input)
            before.bytes took.bytes before.consumed took.left;
        appended = Appends-trans (g.S.Source.taken c.args.input.now) (g.S.Source.taken c.lines.input) (g.S.Source.taken c.turn.new.input)
            before.bytes took.bytes before.appended took.taken;
        counted = omega (arith, took.counted, before.counted, length-append before.bytes took.bytes);
      };
      input_kept = c.in-Ok-Next.ensures.input_kept (λ e. let never : Ok c.in-Ok-Next.field-0 ≡ Err fault.Read = e in cc) ∙ c.lines.invariant.input_kept;
      out_kept = c.in-Ok-Next.ensures.out_kept (λ e. let never : Ok c.in-Ok-Next.field-0 ≡ Err fault.Write = e in cc) ∙ c.lines.invariant.out_kept;
    }

pub returns-in-Ok-End-clause-ended : goal.returns-in-Ok-End-clause-ended
returns-in-Ok-End-clause-ended g c text told =
    let got = g.K.Sink.got c.args.out.now in
    let new = c.turn.new.self in
    c.close.ensures.ended c.history_is_legal_step_by_step.ensures got text
    (subst (λ t. TurnOf (Ok t) new.crew new.reader (g.S.Source.left c.turn.new.input) got (g.K.Sink.got c.turn.new.out) new.pending text)
    c.in-Ok-End.field-0-is (c.in-Ok-End.ensures.turn got text (c.lines.invariant.under_way.progress text told)))

pub returns-in-Ok-End-clause-took : goal.returns-in-Ok-End-clause-took
returns-in-Ok-End-clause-took g c =
    let before = c.lines.invariant.under_way in
    took-input c.lines.spreading.reader c.turn.new.self.reader (g.S.Source.left c.args.input.now) (g.S.Source.left c.lines.input)
    (g.S.Source.left c.turn.new.input) (g.S.Source.taken c.args.input.now) (g.S.Source.taken c.lines.input) (g.S.Source.taken c.turn.new.input)
    c.close.result before.bytes before.consumed before.appended before.counted c.turn.ensures.took (
      λ long. absurd ((judged-or-cut c.close.result c.close.ensures.status).0 long),
      λ full. let never : Ok c.in-Ok-End.field-0 ≡ Err fault.LongInput = c.in-Ok-End.ensures.limit.1 full in cc,
    )

pub returns-in-Err-clause-ended : goal.returns-in-Err-clause-ended
returns-in-Err-clause-ended g c text told =
    let got = g.K.Sink.got c.args.out.now in
    c.stop.ensures.ended c.history_is_legal_step_by_step.ensures got text
    (c.in-Err.ensures.turn got text (c.lines.invariant.under_way.progress text told))

pub returns-in-Err-clause-took : goal.returns-in-Err-clause-took
returns-in-Err-clause-took g c =
    let before = c.lines.invariant.under_way in
    took-input c.lines.spreading.reader c.turn.new.self.reader (g.S.Source.left c.args.input.now) (g.S.Source.left c.lines.input)
    (g.S.Source.left c.turn.new.input) (g.S.Source.taken c.args.input.now) (g.S.Source.taken c.lines.input) (g.S.Source.taken c.turn.new.input)
    c.stop.result before.bytes before.consumed before.appended before.counted c.turn.ensures.took (
      λ long. c.in-Err.ensures.limit.0 (ap Err (long-status c.in-Err.fault (sym c.stop.ensures.status ∙ long))),
      λ full. c.stop.ensures.status ∙ ap status_of (same-fault c.turn.result c.in-Err.fault fault.LongInput c.in-Err.is (c.turn.ensures.limit.1 full)),
    )
