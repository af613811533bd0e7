-- The answer and bytes in print.
use Rattle.std.specs.Prelude.{ℕ, ◌^◌, ◌-◌, List, [], ◌++◌, codes, decimal, flat_map, false}
use Rattle.std.specs.Fmt.{digits, format_spec, padded_integral}

-- the shortest poop, in decimetres
abbrev pub poop_text : ℕ → List ℕ
poop_text dm = codes "poop " ++ decimal dm

-- a byte: its hexadecimal digits in lower case, with zeros before them up to two: what std defines of `{:02x}`
abbrev pub byte_text : ℕ → List ℕ
byte_text b = padded_integral (format_spec 32 0 4 2 (2 ^ 64 - 1)) false [] (digits 16 false b)

abbrev pub bytes_text : List ℕ → List ℕ
bytes_text bs = flat_map byte_text bs
