-- The lines of a text, graph by graph.
-- The sections, put together, are all lines in order, so that none is lost or told twice.
use Rattle.std.specs.Prelude.{◌≡◌, ℕ, Bool, true, false, List, [], ◌∷◌, ◌++◌, vec_items, All, Some, Option}
use Rattle.std.specs.List.{flat_map}
use Rattle.request_lines.specs.declared.line.Line.{Line}
use Rattle.request_lines.specs.declared.line.Line.TheVariants.{Graph}
use Rattle.request_lines.specs.declared.sections.Section.{Section}
use Rattle.request_lines.specs.declared.sections.Sections.{Sections}
use Rattle.request_lines.specs.Parses.{Parsed}
use Rattle.request_lines.specs.Split.{lines_of, numbered}

-- whether a line begins a graph
abbrev pub begins : Option Line → Bool
begins (Some (Graph o)) = true
begins l = false

-- what each of these lines says, by their numbers
abbrev pub Says : List (ℕ × List ℕ) → List (ℕ × Option Line) → Type 0
Says [] [] = Unit {0}
Says (b ∷ bs) (l ∷ ls) = (l.0 ≡ b.0) × Parsed b.1 l.1 × Says bs ls
Says bs ls = ⊥

-- the line that begins the graph, and those after it
abbrev pub section_lines : Section → List (ℕ × Option Line)
section_lines s = (s.number, Some (Graph s.opening)) ∷ vec_items s.lines

abbrev pub all_lines : Sections → List (ℕ × Option Line)
all_lines s = vec_items s.before ++ flat_map section_lines (vec_items s.graphs)

abbrev pub NoGraph : List (ℕ × Option Line) → Type 0
NoGraph ls = All (λ (l : ℕ × Option Line). begins l.1 ≡ false) ls

-- no line begins a graph but those that begin a section
pub record Inside (s : Sections) : Type 0 where
  pub before : NoGraph (vec_items s.before)
  pub graphs : All (λ (g : Section). NoGraph (vec_items g.lines)) (vec_items s.graphs)

-- the sections have the text's lines, all of them and in order, and each but the lines before the first begins with the only line of it that says `graph`
pub record Sectioned (text : List ℕ) (s : Sections) : Type 0 where
  pub lines : Says (numbered 1 (lines_of text)) (all_lines s)
  pub inside : Inside s
