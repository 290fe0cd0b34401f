-- The rules of each optimisation level, in the order in which they are tried.
-- Worked requests answer what each level adds and what the level below it does not.
use Rattle.std.specs.Prelude.{List, [], ◌∷◌}
use Rattle.rules.specs.declared.rule.Rule.{Rule}
use Rattle.rules.specs.declared.rule.Rule.TheVariants.{Contradiction, SharedContradiction, Subsumption, SharedSubsumption, Idempotence, Resolution, Substitution, SharedSubstitution, SharedIdempotence}
use Rattle.rulesets.specs.declared.levels.OptLevel.{OptLevel}
use Rattle.rulesets.specs.declared.levels.OptLevel.TheVariants.{One, Two, Three, Four}

-- the six rules that reply an edge, and more
abbrev pub level_two : List Rule → List Rule
level_two more = Contradiction ∷ SharedContradiction ∷ Subsumption ∷ SharedSubsumption ∷ Idempotence ∷ Resolution ∷ more

-- both substitutions too, and more
abbrev pub level_three : List Rule → List Rule
level_three more = level_two (Substitution ∷ SharedSubstitution ∷ more)

abbrev pub level_rules : OptLevel → List Rule
level_rules One = []
level_rules Two = level_two []
level_rules Three = level_three []
level_rules Four = level_three (SharedIdempotence ∷ [])
