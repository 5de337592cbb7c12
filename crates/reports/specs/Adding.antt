-- The text of a member.
use Rattle.std.specs.Prelude.{ℕ, List, ◌∷◌, ◌++◌}
use Rattle.json.specs.Print.{quoted}
use Rattle.serde_json.specs.Data.{Data}
use Rattle.serde_json.specs.Written.{compact_text}

-- the text of the member with this key
abbrev pub member_text : List ℕ → Data → List ℕ
member_text key d = quoted key ++ 58 ∷ compact_text d
