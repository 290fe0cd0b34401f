use Rattle.std.proofs.Common.{◌≡◌, drop}
use Rattle.workloads.specs.Words.{words_of, xor_from}
use Rattle.workloads.proofs.words.xor_of.Given as goal

-- the words that are left make of the XOR so far that of all
abbrev pub invariant-loop-block : goal.invariant-loop-block
invariant-loop-block l = xor_from l.xor (words_of (drop l.block-index l.blocks)) ≡ xor_from 0 (words_of l.blocks)
