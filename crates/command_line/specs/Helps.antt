-- The texts of help.
use Rattle.std.specs.Prelude.{if◌then◌else◌, ℕ, List, [], ◌∷◌, String, codes, bytes_eq, string_bytes}
use Rattle.std.specs.declared.alloc.Global.{Global}
use Rattle.command_line.specs.declared.help.TheConstants.{PROGRAM, LAYOUT, FRAMES, CHECK, PICK, COUNT}

-- the text of the help for a command with this name, and for another word that for the program
abbrev pub help_of : List ℕ → List ℕ
help_of word =
    if bytes_eq word (codes "layout") then LAYOUT.now
    else if bytes_eq word (codes "frames") then FRAMES.now
    else if bytes_eq word (codes "check") then CHECK.now
    else if bytes_eq word (codes "pick") then PICK.now
    else if bytes_eq word (codes "count") then COUNT.now
    else PROGRAM.now

-- the text of the help that a command line asks for: that for its first argument, or, if this is `help`, for the second
abbrev pub help_in : List (String Global) → List ℕ
help_in [] = PROGRAM.now
help_in (word ∷ []) = help_of (string_bytes word)
help_in (word ∷ topic ∷ words) =
    if bytes_eq (string_bytes word) (codes "help") then help_of (string_bytes topic) else help_of (string_bytes word)
