-- A `&` to a built expression is a `&` to its field, and nothing beside it.
use base.Fml.{ftrue}
use denote.SharingLaws.{nothing_shr_laws}
use denote.Struct.Lending.{Lends-nothing, of_Lends}
use Rattle.std.specs.contracts.alloc.Global as handle
use Rattle.std.proofs.alloc.Global.TheLaws as handle_laws
use Rattle.std.proofs.boxed.Box.TheLaws as box_laws
use Rattle.std.specs.contracts.impls.GlobalAllocator.TheImpl.{ghosts}
use Rattle.regex.specs.contracts.bytes.regex.Regex as regex
use Rattle.regex.proofs.bytes.regex.Regex.TheLaws as regex_laws
use Rattle.text_match.specs.contracts.expression.Built.TheInside as C
use Rattle.text_match.proofs.expression.Built.TheLaw.Statement.{statement}

pub shares : statement
shares = of_Lends C.struct C.the_codes C.the_heap C.the_lent (λ d p. nothing_shr_laws) (box_laws.the_field_shared regex.the_row handle.the_row ghosts regex_laws.the_row_laws handle_laws.the_row_laws, tt) (λ M 𝓤 𝓛 d p. Lends-nothing 𝓛 ftrue (C.the_row).lives)
