-- Worked values: digits and columns, the values of a graph's nodes in bits, what a store accepts, and a new graph's inputs.
-- They are numbers that can be checked on paper, and each is proved by computing it.
use Rattle.std.specs.Prelude.{◌≡◌, Bool, true, false, [], ◌∷◌, map, ◌==◌}
use Rattle.values.specs.Algebra.{BooleanAlgebra}
use Rattle.values.specs.Digits.{digit}
use Rattle.values.specs.Columns.{block_column, table_column}
use Rattle.stores.specs.Stored.{accepts}
use Rattle.graph_model.specs.Graphs.{node_values}
use Rattle.graph_model.specs.WellFormed.{new_state}
use Rattle.worked.specs.Worked.{the_pair, graph}

-- bits are values of the algebra k
pub record WorkedValues (k : BooleanAlgebra Bool) : Type 0 where
  -- six is 110, and its lowest digit is digit 0
  pub digits : map (digit 6) (0 ∷ 1 ∷ 2 ∷ []) ≡ false ∷ true ∷ true ∷ []
  -- input 1 under the assignments from 0 on, and input 6 under those from 64 on
  pub column : (block_column 0 1).bits ≡ 0xcccc_cccc_cccc_cccc
  pub later_column : (block_column 1 6).bits ≡ 0xffff_ffff_ffff_ffff
  pub table : (table_column 6).low.high.bits ≡ 0xffff_ffff_ffff_ffff
  -- of four inputs the first alone is true, and so is its AND with NOT the second
  pub bits : node_values k (λ i. i == 1) (graph 1000000 ((4, 2) ∷ (5, 2) ∷ [])) ≡ false ∷ true ∷ false ∷ false ∷ false ∷ false ∷ true ∷ []
  -- with one place and edges up to 10: free, full, and an edge too large
  pub free : accepts 1 10 [] (the_pair (10, 2)) ≡ true
  pub full : accepts 1 10 (the_pair (4, 2) ∷ []) (the_pair (10, 2)) ≡ false
  pub too_large : accepts 1 10 [] (the_pair (11, 2)) ≡ false
  -- the most inputs
  pub inputs : map (λ n. (new_state n 0 0).inputs) (4095 ∷ 4096 ∷ 4097 ∷ []) ≡ 4095 ∷ 4096 ∷ 4096 ∷ []
