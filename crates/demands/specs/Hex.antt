-- Bytes as document 01 writes them: "lower-case hex, a space between bytes".
use Rattle.std.specs.Prelude.{ℕ, ◌+◌, ◌-◌, ◌*◌, List, [] as nil, ◌∷◌ as cons, cond, ltb}
use Prim.Native.Char.{Char, code}
use Prim.Native.String.{String, [], ◌∷◌}

-- '0' is character 48 and 'a' is character 97
abbrev pub digit : Char → ℕ
digit c = cond (ltb (code c) 97) (code c - 48) (10 + (code c - 97))

abbrev pub byte : Char → Char → ℕ
byte a b = 16 * digit a + digit b

-- two digits a byte, and one character, the space, after all but the last two
abbrev pub hex : String → List ℕ
hex [] = nil
hex (a ∷ []) = nil
hex (a ∷ (b ∷ [])) = cons (byte a b) nil
hex (a ∷ (b ∷ (space ∷ s))) = cons (byte a b) (hex s)
