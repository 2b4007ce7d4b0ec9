-- The names of the causes for which a configuration is refused.
use Rattle.std.specs.Prelude.{ℕ, List, codes}
use Rattle.config_read.specs.declared.fault.Cause.{Cause}
use Rattle.config_read.specs.declared.fault.Cause.TheVariants as cause

-- the printed name of a cause
abbrev pub cause_name : Cause → List ℕ
cause_name cause.TooLong = codes "TooLong"
cause_name cause.NotJson = codes "NotJson"
cause_name cause.Missing = codes "Missing"
cause_name cause.Shape = codes "Shape"
cause_name cause.TooMany = codes "TooMany"
cause_name cause.DuplicateList = codes "DuplicateList"
cause_name cause.UnknownKind = codes "UnknownKind"
cause_name cause.TooManyItems = codes "TooManyItems"
cause_name cause.BadListItem = codes "BadListItem"
cause_name cause.DuplicateId = codes "DuplicateId"
cause_name cause.UnknownPhase = codes "UnknownPhase"
cause_name cause.DuplicateEntry = codes "DuplicateEntry"
cause_name cause.ExpressionTooLong = codes "ExpressionTooLong"
cause_name cause.Lex = codes "Lex"
cause_name cause.Syntax = codes "Syntax"
cause_name cause.TooDeep = codes "TooDeep"
cause_name cause.UnknownField = codes "UnknownField"
cause_name cause.UnknownFunction = codes "UnknownFunction"
cause_name cause.UnknownList = codes "UnknownList"
cause_name cause.ResponseField = codes "ResponseField"
cause_name cause.Misplaced = codes "Misplaced"
cause_name cause.Mismatch = codes "Mismatch"
cause_name cause.BadPrefix = codes "BadPrefix"
cause_name cause.BadRange = codes "BadRange"
cause_name cause.BadWildcard = codes "BadWildcard"
cause_name cause.PatternSyntax = codes "PatternSyntax"
cause_name cause.PatternSize = codes "PatternSize"
cause_name cause.UnknownAction = codes "UnknownAction"
cause_name cause.ActionPlace = codes "ActionPlace"
cause_name cause.NestedExecute = codes "NestedExecute"
cause_name cause.UnknownRuleset = codes "UnknownRuleset"
cause_name cause.BadLimit = codes "BadLimit"
