-- What a caller in the code comes to is what the definition makes of the one that it stands for.
use Rattle.std.proofs.Common.{◌≡◌, ℕ, List, [], ◌∷◌, ◌++◌, Option, None, Some, true, false, is_some, refl, sym, ap, subst, ◌∙◌}
use Rattle.std.specs.Arc.{arc_value}
use Rattle.std.specs.Prelude.{IfSome}
use Rattle.edge_base.specs.declared.message.Reply.{Reply}
use Rattle.edge_base.specs.declared.message.Request.{Request}
use Rattle.rate_plain.specs.declared.entry.Answer.{Answer}
use Rattle.rate_plain.specs.declared.entry.Ask.{Ask}
use Rattle.ruleset_model.specs.ConfigParts.{ConfigParts}
use Rattle.ruleset_model.specs.declared.picked.Picked.{Picked}
use Rattle.ruleset_model.specs.declared.verdict.Verdict.{Verdict}
use Rattle.ruleset_model.specs.declared.verdict.VerdictKind.{VerdictKind}
use Rattle.ruleset_model.specs.declared.verdict.VerdictKind.TheVariants as kind
use Rattle.judge_core.specs.Backing.{BackCourse, IsBackUnderWay, IsToldBack, MayTellBack, StandsForBack, TellsBack, TellsBackAsk, back_more, back_opening}
use Rattle.judge_core.specs.Judging.{Judgement}
use Rattle.judge_core.specs.Stands.{Course, IsTold, IsUnderWay, MayTell, StandsFor, Tells, TellsAsk, TellsDone, judgement_of, opening, told_more}
use Rattle.judge_core.specs.Talk.{Stand, Counts, Done, Overtold}
use Rattle.judge_core.specs.Values.{Listed, AreTold}
use Rattle.judge_core.specs.declared.backing.Back.{Back}
use Rattle.judge_core.specs.declared.backing.Backing.{Backing}
use Rattle.judge_core.specs.declared.backing.BackTurn.{BackTurn}
use Rattle.judge_core.specs.declared.backing.BackTurn.TheVariants as back_turn
use Rattle.judge_core.specs.declared.judging.Judge.{Judge}
use Rattle.judge_core.specs.declared.judging.Judged.{Judged}
use Rattle.judge_core.specs.declared.judging.Running.{Running}
use Rattle.judge_core.specs.declared.judging.Turn.{Turn}
use Rattle.judge_core.specs.declared.judging.Turn.TheVariants as turn
use Rattle.edge_core.specs.declared.caller.Caller.{Caller}
use Rattle.edge_core.specs.declared.caller.Caller.TheVariants as caller
use Rattle.edge_core.specs.declared.event.Shown.{Shown}
use Rattle.edge_core.specs.declared.event.Shown.TheVariants as shown
use Rattle.edge_core.specs.World.{CallerParts}
use Rattle.edge_core.specs.World as here
use Rattle.edge_core.specs.Steps.{Move, stays, arriving, picking, finishing, backing, reply_came, judged_in, judged_so, replied_in, replied_so, asked_by, asked_in, answered}
use Rattle.edge_core.specs.Stands.{HasAsked, IsCaller, IsMoved, MovesBy, TakesAnswer, asked_in_turn, asked_in_back, asked_now}
use Rattle.edge_core.specs.Turns.{IsGoing, IsGoingBack, config_under, config_behind}

module _ (meaning : ConfigParts → Listed) where
  -- ---- which of the code's stands for which of the definition's
  pub is_idle : (one : Caller) → IsCaller meaning one here.Idle → one ≡ caller.Idle
  is_idle caller.Idle is = refl
  is_idle (caller.Came request) is = absurd is
  is_idle (caller.Judging judge next) is = absurd is
  is_idle (caller.Judged judged) is = absurd is
  is_idle (caller.Backing back next) is = absurd is

  pub is_came : (one : Caller) (request : Request) → IsCaller meaning one (here.Came request) → one ≡ caller.Came request
  is_came caller.Idle request is = absurd is
  is_came (caller.Came other) request is = ap caller.Came is
  is_came (caller.Judging judge next) request is = absurd is
  is_came (caller.Judged judged) request is = absurd is
  is_came (caller.Backing back next) request is = absurd is

  pub is_judging : (one : Caller) (course : Course) → IsCaller meaning one (here.UnderWay course)
      → (judge : Judge) × (next : Turn) × (one ≡ caller.Judging judge next)
  is_judging caller.Idle course is = absurd is
  is_judging (caller.Came other) course is = absurd is
  is_judging (caller.Judging judge next) course is = (judge, next, refl)
  is_judging (caller.Judged judged) course is = absurd is
  is_judging (caller.Backing back next) course is = absurd is

  pub is_judged : (one : Caller) (config : ConfigParts) (judgement : Judgement) → IsCaller meaning one (here.Judged config judgement)
      → (judged : Judged) × (one ≡ caller.Judged judged)
  is_judged caller.Idle config judgement is = absurd is
  is_judged (caller.Came other) config judgement is = absurd is
  is_judged (caller.Judging judge next) config judgement is = absurd is
  is_judged (caller.Judged judged) config judgement is = (judged, refl)
  is_judged (caller.Backing back next) config judgement is = absurd is

  pub is_behind : (one : Caller) (course : BackCourse) → IsCaller meaning one (here.Backing course)
      → (back : Back) × (next : BackTurn) × (one ≡ caller.Backing back next)
  is_behind caller.Idle course is = absurd is
  is_behind (caller.Came other) course is = absurd is
  is_behind (caller.Judging judge next) course is = absurd is
  is_behind (caller.Judged judged) course is = absurd is
  is_behind (caller.Backing back next) course is = (back, next, refl)

  -- ---- an event that doesn't fit
  unfit : (one : Caller) (parts : CallerParts) (move : Move) → IsCaller meaning one parts → move ≡ stays parts → IsMoved meaning (one, shown.Unfit) move
  unfit one parts move is same = subst (IsMoved meaning (one, shown.Unfit)) (sym same) (record { state = is; shown_is = refl })

  pub arriving_unfit : (request : Request) (one : Caller) → (one ≡ caller.Idle → ⊥) → ((judged : Judged) → one ≡ caller.Judged judged → ⊥)
      → MovesBy meaning (arriving request) one (one, shown.Unfit)
  arriving_unfit request one not_idle not_judged here.Idle is = absurd (not_idle (is_idle one is))
  arriving_unfit request one not_idle not_judged (here.Came other) is = unfit one _ _ is refl
  arriving_unfit request one not_idle not_judged (here.UnderWay course) is = unfit one _ _ is refl
  arriving_unfit request one not_idle not_judged (here.Judged config judgement) is =
      let (judged, same) = is_judged one config judgement is in absurd (not_judged judged same)
  arriving_unfit request one not_idle not_judged (here.Backing course) is = unfit one _ _ is refl

  pub picking_unfit : (number : ℕ) (config : ConfigParts) (one : Caller) → ((request : Request) → one ≡ caller.Came request → ⊥)
      → MovesBy meaning (picking number config) one (one, shown.Unfit)
  picking_unfit number config one not_came here.Idle is = unfit one _ _ is refl
  picking_unfit number config one not_came (here.Came request) is = absurd (not_came request (is_came one request is))
  picking_unfit number config one not_came (here.UnderWay course) is = unfit one _ _ is refl
  picking_unfit number config one not_came (here.Judged of judgement) is = unfit one _ _ is refl
  picking_unfit number config one not_came (here.Backing course) is = unfit one _ _ is refl

  pub finishing_unfit : (one : Caller) → ((judge : Judge) (next : Turn) → one ≡ caller.Judging judge next → ⊥)
      → ((back : Back) (next : BackTurn) → one ≡ caller.Backing back next → ⊥) → MovesBy meaning (finishing meaning) one (one, shown.Unfit)
  finishing_unfit one not_judging not_behind here.Idle is = unfit one _ _ is refl
  finishing_unfit one not_judging not_behind (here.Came request) is = unfit one _ _ is refl
  finishing_unfit one not_judging not_behind (here.UnderWay course) is =
      let (judge, next, same) = is_judging one course is in absurd (not_judging judge next same)
  finishing_unfit one not_judging not_behind (here.Judged config judgement) is = unfit one _ _ is refl
  finishing_unfit one not_judging not_behind (here.Backing course) is =
      let (back, next, same) = is_behind one course is in absurd (not_behind back next same)

  pub backing_unfit : (reply : Reply) (at : ℕ) (one : Caller) → ((judged : Judged) → one ≡ caller.Judged judged → ⊥)
      → MovesBy meaning (backing reply at) one (one, shown.Unfit)
  backing_unfit reply at one not_judged here.Idle is = unfit one _ _ is refl
  backing_unfit reply at one not_judged (here.Came request) is = unfit one _ _ is refl
  backing_unfit reply at one not_judged (here.UnderWay course) is = unfit one _ _ is refl
  backing_unfit reply at one not_judged (here.Judged config judgement) is =
      let (judged, same) = is_judged one config judgement is in absurd (not_judged judged same)
  backing_unfit reply at one not_judged (here.Backing course) is = unfit one _ _ is refl

  -- ---- an event that fits
  pub arrives_idle : (request : Request) → MovesBy meaning (arriving request) caller.Idle (caller.Came request, shown.Nothing)
  arrives_idle request here.Idle is = record { state = refl; shown_is = refl }
  arrives_idle request (here.Came other) is = absurd is
  arrives_idle request (here.UnderWay course) is = absurd is
  arrives_idle request (here.Judged config judgement) is = absurd is
  arrives_idle request (here.Backing course) is = absurd is

  pub arrives_judged : (request : Request) (judged : Judged) → MovesBy meaning (arriving request) (caller.Judged judged) (caller.Came request, shown.Nothing)
  arrives_judged request judged here.Idle is = absurd is
  arrives_judged request judged (here.Came other) is = absurd is
  arrives_judged request judged (here.UnderWay course) is = absurd is
  arrives_judged request judged (here.Judged config judgement) is = record { state = refl; shown_is = refl }
  arrives_judged request judged (here.Backing course) is = absurd is

  pub picks_came : (number : ℕ) (config : ConfigParts) (request : Request) (picked : Picked) (judge : Judge) (next : Turn) → picked.number ≡ number
      → arc_value picked.config ≡ config → Tells (meaning (arc_value picked.config)) (opening picked request) judge next
      → MovesBy meaning (picking number config) (caller.Came request) (caller.Judging judge next, shown.Picked number)
  picks_came number config request picked judge next is_number is_config tells here.Idle is = absurd is
  picks_came number config request picked judge next is_number is_config tells (here.Came other) is =
      let same : opening picked request ≡ record { number = number; config = config; request = other; answers = [] } =
      λ i. record { number = is_number i; config = is_config i; request = is i; answers = [] } in
      record { state = subst (λ (course : Course). Tells (meaning course.config) course judge next) same tells; shown_is = refl }
  picks_came number config request picked judge next is_number is_config tells (here.UnderWay course) is = absurd is
  picks_came number config request picked judge next is_number is_config tells (here.Judged of judgement) is = absurd is
  picks_came number config request picked judge next is_number is_config tells (here.Backing course) is = absurd is

  pub asks_on : (judge : Judge) (ask : Ask) → MovesBy meaning (finishing meaning) (caller.Judging judge (turn.Count ask)) (caller.Judging judge (turn.Count ask), shown.Unfit)
  asks_on judge ask here.Idle is = absurd is
  asks_on judge ask (here.Came request) is = absurd is
  asks_on judge ask (here.UnderWay course) is = unfit _ (here.UnderWay course) _ is (ap (judged_in course) is.asks)
  asks_on judge ask (here.Judged config judgement) is = absurd is
  asks_on judge ask (here.Backing course) is = absurd is

  pub judged_shown : (judge : Judge) (judged : Judged) (verdict : Verdict) → verdict ≡ judged.verdict
      → MovesBy meaning (finishing meaning) (caller.Judging judge (turn.Done judged)) (caller.Judged judged, shown.Verdict verdict)
  judged_shown judge judged verdict same here.Idle is = absurd is
  judged_shown judge judged verdict same (here.Came request) is = absurd is
  judged_shown judge judged verdict same (here.UnderWay course) is =
      subst (λ (stand : Stand Judgement). IsMoved meaning (caller.Judged judged, shown.Verdict verdict) (judged_in course stand)) (sym is.done)
      (record { state = (is.config, refl); shown_is = ap shown.Verdict same })
  judged_shown judge judged verdict same (here.Judged config judgement) is = absurd is
  judged_shown judge judged verdict same (here.Backing course) is = absurd is

  pub asks_back_on : (back : Back) (ask : Ask)
      → MovesBy meaning (finishing meaning) (caller.Backing back (back_turn.Count ask)) (caller.Backing back (back_turn.Count ask), shown.Unfit)
  asks_back_on back ask here.Idle is = absurd is
  asks_back_on back ask (here.Came request) is = absurd is
  asks_back_on back ask (here.UnderWay course) is = absurd is
  asks_back_on back ask (here.Judged config judgement) is = absurd is
  asks_back_on back ask (here.Backing course) is = unfit _ (here.Backing course) _ is (ap (replied_in course) is.asks)

  pub replied_shown : (back : Back) (reply : Reply) → MovesBy meaning (finishing meaning) (caller.Backing back (back_turn.Done reply)) (caller.Idle, shown.Replied reply)
  replied_shown back reply here.Idle is = absurd is
  replied_shown back reply (here.Came request) is = absurd is
  replied_shown back reply (here.UnderWay course) is = absurd is
  replied_shown back reply (here.Judged config judgement) is = absurd is
  replied_shown back reply (here.Backing course) is =
      subst (λ (stand : Stand (Option Reply)). IsMoved meaning (caller.Idle, shown.Replied reply) (replied_in course stand)) (sym is)
      (record { state = tt; shown_is = refl })

  blocked : (config : ConfigParts) (judgement : Judgement) (reply : Reply) (at : ℕ) (passed : VerdictKind) → (passed ≡ kind.Pass → ⊥)
      → reply_came config judgement reply at passed ≡ stays (here.Judged config judgement)
  blocked config judgement reply at kind.Pass not_passed = absurd (not_passed refl)
  blocked config judgement reply at (kind.Block response) not_passed = refl
  blocked config judgement reply at kind.Challenge not_passed = refl
  blocked config judgement reply at (kind.Redirect status target) not_passed = refl

  pub backs_blocked : (reply : Reply) (at : ℕ) (judged : Judged) → (judged.verdict.kind ≡ kind.Pass → ⊥)
      → MovesBy meaning (backing reply at) (caller.Judged judged) (caller.Judged judged, shown.Unfit)
  backs_blocked reply at judged not_passed here.Idle is = absurd is
  backs_blocked reply at judged not_passed (here.Came request) is = absurd is
  backs_blocked reply at judged not_passed (here.UnderWay course) is = absurd is
  backs_blocked reply at judged not_passed (here.Judged config judgement) is =
      let same : judged.verdict.kind ≡ judgement.verdict.kind = ap (λ (j : Judgement). j.verdict.kind) is.1 in
      unfit _ (here.Judged config judgement) _ is (blocked config judgement reply at judgement.verdict.kind (λ passed. not_passed (same ∙ passed)))
  backs_blocked reply at judged not_passed (here.Backing course) is = absurd is

  pub backs_passed : (reply : Reply) (at : ℕ) (judged : Judged) (back : Back) (next : BackTurn) → judged.verdict.kind ≡ kind.Pass
      → TellsBack (meaning (arc_value judged.config)) (back_opening judged reply at) back next
      → MovesBy meaning (backing reply at) (caller.Judged judged) (caller.Backing back next, shown.Nothing)
  backs_passed reply at judged back next passed tells here.Idle is = absurd is
  backs_passed reply at judged back next passed tells (here.Came request) is = absurd is
  backs_passed reply at judged back next passed tells (here.UnderWay course) is = absurd is
  backs_passed reply at judged back next passed tells (here.Judged config judgement) is =
      let kinds : judgement.verdict.kind ≡ kind.Pass = sym (ap (λ (j : Judgement). j.verdict.kind) is.1) ∙ passed in
      let same : back_opening judged reply at ≡ record { config = config; judged = judgement; reply = reply; at = at; answers = [] } =
      λ i. record { config = is.0 i; judged = is.1 i; reply = reply; at = at; answers = [] } in
      subst (λ (passed : VerdictKind). IsMoved meaning (caller.Backing back next, shown.Nothing) (reply_came config judgement reply at passed)) (sym kinds)
      (record { state = subst (λ (course : BackCourse). TellsBack (meaning course.config) course back next) same tells; shown_is = refl })
  backs_passed reply at judged back next passed tells (here.Backing course) is = absurd is

  -- ---- a step that is asked, and its answer
  pub asked_is : (one : Caller) (parts : CallerParts) → IsCaller meaning one parts → asked_now one ≡ asked_by meaning parts
  asked_is one here.Idle is = ap asked_now (is_idle one is)
  asked_is one (here.Came request) is = ap asked_now (is_came one request is)
  asked_is caller.Idle (here.UnderWay course) is = absurd is
  asked_is (caller.Came request) (here.UnderWay course) is = absurd is
  asked_is (caller.Judging judge (turn.Count ask)) (here.UnderWay course) is = sym (ap asked_in is.asks)
  asked_is (caller.Judging judge (turn.Done judged)) (here.UnderWay course) is = sym (ap asked_in is.done)
  asked_is (caller.Judged judged) (here.UnderWay course) is = absurd is
  asked_is (caller.Backing back next) (here.UnderWay course) is = absurd is
  asked_is one (here.Judged config judgement) is = let (judged, same) = is_judged one config judgement is in ap asked_now same
  asked_is caller.Idle (here.Backing course) is = absurd is
  asked_is (caller.Came request) (here.Backing course) is = absurd is
  asked_is (caller.Judging judge next) (here.Backing course) is = absurd is
  asked_is (caller.Judged judged) (here.Backing course) is = absurd is
  asked_is (caller.Backing back (back_turn.Count ask)) (here.Backing course) is = sym (ap asked_in is.asks)
  asked_is (caller.Backing back (back_turn.Done reply)) (here.Backing course) is = sym (ap asked_in is)

  -- a judging that goes on is told of the lists of the configuration by which it judges
  pub told_under : (course : Course) (now : Option Running) → IfSome now (IsUnderWay (meaning course.config) course)
      → IfSome now (λ (running : Running). AreTold (meaning course.config) (arc_value running.picked.config))
      → IfSome now (λ (running : Running). AreTold (meaning (config_under now)) (arc_value running.picked.config))
  told_under course None stands told = tt
  told_under course (Some running) stands told =
      subst (λ (config : ConfigParts). AreTold (meaning config) (arc_value running.picked.config)) (sym stands.config) told

  pub stands_under : (course : Course) (now : Option Running) → IfSome now (IsUnderWay (meaning course.config) course)
      → IfSome now (IsUnderWay (meaning (config_under now)) course)
  stands_under course None stands = tt
  stands_under course (Some running) stands =
      subst (λ (config : ConfigParts). IsUnderWay (meaning config) course running) (sym stands.config) stands

  -- while it goes on, that is the configuration of its course
  pub config_is_under : (course : Course) (now : Option Running) → IfSome now (IsUnderWay (meaning course.config) course) → is_some now ≡ true
      → config_under now ≡ course.config
  config_is_under course None stands going = absurd (cc)
  config_is_under course (Some running) stands going = stands.config

  pub told_behind : (course : BackCourse) (now : Option Backing) → IfSome now (IsBackUnderWay (meaning course.config) course)
      → IfSome now (λ (one : Backing). AreTold (meaning course.config) (arc_value one.config))
      → IfSome now (λ (one : Backing). AreTold (meaning (config_behind now)) (arc_value one.config))
  told_behind course None stands told = tt
  told_behind course (Some one) stands told =
      subst (λ (config : ConfigParts). AreTold (meaning config) (arc_value one.config)) (sym stands.config) told

  pub stands_behind : (course : BackCourse) (now : Option Backing) → IfSome now (IsBackUnderWay (meaning course.config) course)
      → IfSome now (IsBackUnderWay (meaning (config_behind now)) course)
  stands_behind course None stands = tt
  stands_behind course (Some one) stands =
      subst (λ (config : ConfigParts). IsBackUnderWay (meaning config) course one) (sym stands.config) stands

  pub config_is_behind : (course : BackCourse) (now : Option Backing) → IfSome now (IsBackUnderWay (meaning course.config) course) → is_some now ≡ true
      → config_behind now ≡ course.config
  config_is_behind course None stands going = absurd (cc)
  config_is_behind course (Some one) stands going = stands.config

  -- what was answered to a judging that has asked
  has_asked : (judge : Judge) (next : Turn) → HasAsked meaning (caller.Judging judge next)
      → (course : Course) × (ask : Ask) × TellsAsk (meaning course.config) course judge ask
  has_asked judge next (ask, here.Idle, asked, is) = absurd is
  has_asked judge next (ask, (here.Came request), asked, is) = absurd is
  has_asked judge (turn.Count other) (ask, (here.UnderWay course), asked, is) = (course, other, is)
  has_asked judge (turn.Done judged) (ask, (here.UnderWay course), asked, is) = absurd (cc)
  has_asked judge next (ask, (here.Judged config judgement), asked, is) = absurd is
  has_asked judge next (ask, (here.Backing course), asked, is) = absurd is

  pub goes_on_told : (judge : Judge) (next : Turn) → HasAsked meaning (caller.Judging judge next) → IsTold (meaning (config_under judge.running)) judge
  goes_on_told judge next has = let (course, ask, tells) = has_asked judge next has in told_under course judge.running tells.stands tells.told

  pub goes_on_may : (judge : Judge) (next : Turn) (answer : Answer) → HasAsked meaning (caller.Judging judge next) → MayTell (Some answer) judge
  goes_on_may judge next answer has = let (course, ask, tells) = has_asked judge next has in tells.may answer

  took : (judge : Judge) (next : Turn) (answer : Answer) (judge_then : Judge) (next_then : Turn) (ask : Ask)
      → ((course : Course) → StandsFor (meaning (config_under judge.running)) course judge
      → Tells (meaning (config_under judge.running)) (told_more (Some answer) course) judge_then next_then)
      → IsGoing judge → asked_in_turn next ≡ Some ask → (course : Course) → Tells (meaning course.config) course judge next
      → Tells (meaning course.config) (told_more (Some answer) course) judge_then next_then
  took judge (turn.Count other) answer judge_then next_then ask tells going asked course is =
      subst (λ (config : ConfigParts). Tells (meaning config) (told_more (Some answer) course) judge_then next_then)
      (config_is_under course judge.running is.stands going) (tells course (stands_under course judge.running is.stands))
  took judge (turn.Done judged) answer judge_then next_then ask tells going asked course is = absurd (cc)

  pub takes_answer : (judge : Judge) (next : Turn) (answer : Answer) (judge_then : Judge) (next_then : Turn) → HasAsked meaning (caller.Judging judge next)
      → ((course : Course) → StandsFor (meaning (config_under judge.running)) course judge
      → Tells (meaning (config_under judge.running)) (told_more (Some answer) course) judge_then next_then)
      → IsGoing judge → TakesAnswer meaning answer (caller.Judging judge next) (caller.Judging judge_then next_then)
  takes_answer judge next answer judge_then next_then has tells going here.Idle is = absurd is
  takes_answer judge next answer judge_then next_then has tells going (here.Came request) is = absurd is
  takes_answer judge next answer judge_then next_then has tells going (here.UnderWay course) is =
      let (ask, parts, asked, one) = has in took judge next answer judge_then next_then ask tells going asked course is
  takes_answer judge next answer judge_then next_then has tells going (here.Judged config judgement) is = absurd is
  takes_answer judge next answer judge_then next_then has tells going (here.Backing course) is = absurd is

  -- no other caller asks
  pub asks_nothing : (one : Caller) → HasAsked meaning one → ((judge : Judge) (next : Turn) → one ≡ caller.Judging judge next → ⊥)
      → ((back : Back) (next : BackTurn) → one ≡ caller.Backing back next → ⊥) → ⊥
  asks_nothing caller.Idle (ask, parts, asked, is) not_judging not_behind = let never : None ≡ Some ask = asked in cc
  asks_nothing (caller.Came request) (ask, parts, asked, is) not_judging not_behind = let never : None ≡ Some ask = asked in cc
  asks_nothing (caller.Judged judged) (ask, parts, asked, is) not_judging not_behind = let never : None ≡ Some ask = asked in cc
  asks_nothing (caller.Judging judge next) has not_judging not_behind = not_judging judge next refl
  asks_nothing (caller.Backing back next) has not_judging not_behind = not_behind back next refl

  -- the same of a reply
  has_asked_back : (back : Back) (next : BackTurn) → HasAsked meaning (caller.Backing back next)
      → (course : BackCourse) × (ask : Ask) × TellsBackAsk (meaning course.config) course back ask
  has_asked_back back next (ask, here.Idle, asked, is) = absurd is
  has_asked_back back next (ask, (here.Came request), asked, is) = absurd is
  has_asked_back back next (ask, (here.UnderWay course), asked, is) = absurd is
  has_asked_back back next (ask, (here.Judged config judgement), asked, is) = absurd is
  has_asked_back back (back_turn.Count other) (ask, (here.Backing course), asked, is) = (course, other, is)
  has_asked_back back (back_turn.Done reply) (ask, (here.Backing course), asked, is) = absurd (cc)

  pub goes_back_told : (back : Back) (next : BackTurn) → HasAsked meaning (caller.Backing back next) → IsToldBack (meaning (config_behind back.backing)) back
  goes_back_told back next has = let (course, ask, tells) = has_asked_back back next has in told_behind course back.backing tells.stands tells.told

  pub goes_back_may : (back : Back) (next : BackTurn) (answer : Answer) → HasAsked meaning (caller.Backing back next) → MayTellBack (Some answer) back
  goes_back_may back next answer has = let (course, ask, tells) = has_asked_back back next has in tells.may answer

  took_back : (back : Back) (next : BackTurn) (answer : Answer) (back_then : Back) (next_then : BackTurn) (ask : Ask)
      → ((course : BackCourse) → StandsForBack (meaning (config_behind back.backing)) course back
      → TellsBack (meaning (config_behind back.backing)) (back_more (Some answer) course) back_then next_then)
      → IsGoingBack back → asked_in_back next ≡ Some ask → (course : BackCourse) → TellsBack (meaning course.config) course back next
      → TellsBack (meaning course.config) (back_more (Some answer) course) back_then next_then
  took_back back (back_turn.Count other) answer back_then next_then ask tells going asked course is =
      subst (λ (config : ConfigParts). TellsBack (meaning config) (back_more (Some answer) course) back_then next_then)
      (config_is_behind course back.backing is.stands going) (tells course (stands_behind course back.backing is.stands))
  took_back back (back_turn.Done reply) answer back_then next_then ask tells going asked course is = absurd (cc)

  pub takes_answer_back : (back : Back) (next : BackTurn) (answer : Answer) (back_then : Back) (next_then : BackTurn) → HasAsked meaning (caller.Backing back next)
      → ((course : BackCourse) → StandsForBack (meaning (config_behind back.backing)) course back
      → TellsBack (meaning (config_behind back.backing)) (back_more (Some answer) course) back_then next_then)
      → IsGoingBack back → TakesAnswer meaning answer (caller.Backing back next) (caller.Backing back_then next_then)
  takes_answer_back back next answer back_then next_then has tells going here.Idle is = absurd is
  takes_answer_back back next answer back_then next_then has tells going (here.Came request) is = absurd is
  takes_answer_back back next answer back_then next_then has tells going (here.UnderWay course) is = absurd is
  takes_answer_back back next answer back_then next_then has tells going (here.Judged config judgement) is = absurd is
  takes_answer_back back next answer back_then next_then has tells going (here.Backing course) is =
      let (ask, parts, asked, one) = has in took_back back next answer back_then next_then ask tells going asked course is
