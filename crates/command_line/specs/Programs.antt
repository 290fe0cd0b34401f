-- What `--help` tells of each program, and how many arguments each takes.
-- The texts are written out.
use Rattle.std.specs.Prelude.{ℕ, List, [], ◌∷◌, ◌++◌, codes}
use Rattle.std.specs.List.{flat_map}
use Rattle.command_line.specs.declared.program.Program.{Program}
use Rattle.command_line.specs.declared.program.Program.TheVariants.{Press, Simulate, Replay, Samples, Bench}

-- lines, each with its end
abbrev pub of_lines : List (List ℕ) → List ℕ
of_lines ls = flat_map (λ l. l ++ codes "\n") ls

abbrev pub usage : Program → List ℕ
usage Press =
    of_lines (
    codes "usage: press [FILE]"
    ∷ codes "Reads a circuit file (ASCII AIGER), simplifies the circuit, and prints it, or `refused N line L`."
    ∷ codes "Without FILE it reads circuit.aag in the working folder; a missing file counts as empty."
    ∷ [])
usage Simulate =
    of_lines (
    codes "usage: simulate [CIRCUIT [FRAMES]]"
    ∷ codes "Reads a circuit file (ASCII AIGER) and test frames, one line of as many digits 0 or 1 as the circuit has inputs for each"
    ∷ codes "frame, and prints for each frame its digits, a space, and the digits of the outputs; or why a file is refused."
    ∷ codes "Without names it reads circuit.aag and frames.txt in the working folder; a missing file counts as empty."
    ∷ [])
usage Replay =
    of_lines (
    codes "usage: replay < REQUESTS"
    ∷ codes "Reads requests to graphs from standard input, one to a line, and prints one answer to a line:"
    ∷ codes "    graph INPUTS LEVEL RECORDS    begins a new graph of level 1 to 4, and answers nothing"
    ∷ codes "    and X Y, or X Y, implies X Y, equiv X Y, xor X Y"
    ∷ codes "                                  edge E added N"
    ∷ codes "    read PATH                     added N outputs E .."
    ∷ codes "    evaluate DIGITS               values DIGITS"
    ∷ codes "    compare X Y                   same, or differ K"
    ∷ codes "    table E                       64 hexadecimal digits, row 255 first"
    ∷ codes "    write E ..                    the graph as a circuit file with these outputs"
    ∷ codes "    pairs                         L,S for each pair"
    ∷ codes "A refusal is answered by `refused N`, that of a file by `refused N line L`, and a line of another form by"
    ∷ codes "`line K not understood`."
    ∷ [])
usage Samples =
    of_lines (
    codes "usage: samples"
    ∷ codes "Reads the circuits NAME.aag of the working folder that it has the names of, and prints a table: the name, the answer to"
    ∷ codes "reading the circuit into a new graph at level three, and how many nodes are stored."
    ∷ [])
usage Bench =
    of_lines (
    codes "usage: bench [time]"
    ∷ codes "Measures the library on generated circuits and graphs: small ones and counts only, with `time` large ones and times too."
    ∷ [])

abbrev pub most : Program → ℕ
most Press = 1
most Simulate = 2
most Replay = 0
most Samples = 0
most Bench = 1
