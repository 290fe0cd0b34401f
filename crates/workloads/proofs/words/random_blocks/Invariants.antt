use Rattle.std.proofs.Common.{◌≡◌}
use Rattle.workloads.specs.Words.{words_of, words, stepped}
use Rattle.workloads.proofs.words.random_blocks.Given as goal

abbrev pub invariant-loop-block : goal.invariant-loop-block
invariant-loop-block l = (words_of l.blocks.items ≡ words l._block l.initial.random.state) × (l.random.state ≡ stepped l._block l.initial.random.state)
