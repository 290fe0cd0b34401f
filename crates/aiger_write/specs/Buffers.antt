-- What a buffer holds after bytes were put into it.
-- Places before and after the bytes are as they were.
use Rattle.std.specs.Prelude.{ℕ, ◌+◌, List, [], ◌∷◌, slice_set}

-- the bytes from a place on; those past the buffer's end are lost
unfoldable pub put : List ℕ → ℕ → List ℕ → List ℕ
put xs at [] = xs
put xs at (b ∷ bs) = put (slice_set xs at b) (at + 1) bs
