use Rattle.rate_shared.specs.Hands.{next_entry}
use Rattle.rate_shared.proofs.turns.draw.Given as goal

abbrev pub ghosts-draw_as : goal.ghosts-draw_as
ghosts-draw_as a = record { entry = next_entry a.place.now.me a.caller a.ask.now }
