-- How the strings of turns are kept.
use Rattle.std.specs.Prelude.{◌≤◌, List, map, length, All, Vec, vec_len}
use Rattle.std.specs.declared.alloc.Global.{Global}
use Rattle.embedding.specs.declared.graphs.TheConstants.{MAX_DARTS}
use Rattle.ortho_rep.specs.declared.turn_strings.TheConstants.{MAX_TURNS}
use Rattle.ortho_rep.specs.declared.turn_strings.Turn.{Turn}

-- the lists of a list of vectors
abbrev pub lists_in : {A : Type 0} → List (Vec A Global) → List (List A)
lists_in vectors = map (λ v. v.items) vectors

-- a string for each of at most 4,800 darts, of at most 1,000,000 turns
pub record HasFewTurns (strings : List (Vec Turn Global)) : Type 0 where
  pub few : length strings ≤ MAX_DARTS
  pub short : All (λ string. vec_len string ≤ MAX_TURNS) strings
