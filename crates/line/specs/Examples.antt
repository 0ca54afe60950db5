-- Lines, texts and fuses, worked out: one table over the definitions, proved by one statement. Assumes nothing.
use Rattle.std.specs.Prelude.{ℕ, ◌≡◌, refl, List, [], ◌∷◌, ◌++◌, map, replicate}
use Prim.Native.String.{String}
use Rattle.rules.specs.Cases.{longest}
use Rattle.rules.specs.declared.Request.TheVariants.{Reserve, ReserveUncleared, Grow, Onactive, Onfree, Withdraw, Activate, Free, Recover}
use Rattle.line.specs.declared.Line.{Line}
use Rattle.line.specs.declared.Line.TheVariants.{Ask, Fuse, Walk, Bad}
use Rattle.rules.specs.Pages.{codes}
use Rattle.line.specs.Lines.{fields, is_digit, value_from, number, numbers, same, named, commands, command, meaning, line_of, fuse_after}
use Rattle.text.specs.Texts.{digits, decimal}
use Rattle.line.specs.Texts.{three_text, reply_text, clump_text, bad_text}

abbrev pub line_for : String → Line
line_for s = line_of (codes s)

-- `reserve` and a number of n zeros and then a 1
abbrev pub padded : ℕ → Line
padded n = line_of (codes "reserve " ++ (replicate n 48 ++ (49 ∷ [])))

-- the fuse that the next request has after these lines
abbrev pub fuse_from : ℕ → List String → ℕ
fuse_from fuse [] = fuse
fuse_from fuse (s ∷ ss) = fuse_from (fuse_after fuse (line_for s)) ss

abbrev pub Examples : Type 0
Examples =
    -- each name with its numbers
    (map line_for ("reserve 1000" ∷ "reserve_uncleared 1000" ∷ "onactive 16448 4096 7" ∷ "onfree 16448 4096 0" ∷ "withdraw 16448" ∷ [])
    ≡ Ask (Reserve 1000) ∷ Ask (ReserveUncleared 1000) ∷ Ask (Onactive 16448 4096 7) ∷ Ask (Onfree 16448 4096 0) ∷ Ask (Withdraw 16448) ∷ [])
    × (map line_for ("grow 16448 1000" ∷ "activate 16448" ∷ "free 16448" ∷ "recover" ∷ "fuse 3" ∷ "walk" ∷ [])
    ≡ Ask (Grow 16448 1000) ∷ Ask (Activate 16448) ∷ Ask (Free 16448) ∷ Ask Recover ∷ Fuse 3 ∷ Walk ∷ [])
    -- other names, none, capitals, a wrong count of numbers
    × (map line_for ("create" ∷ "check" ∷ "" ∷ "Walk" ∷ "walks" ∷ "wal" ∷ "reserve" ∷ "reserve_uncleared" ∷ "reserve-uncleared 1" ∷ "recover 1" ∷ "reserve 1 2" ∷ "reserve_uncleared 1 2" ∷ "grow 1" ∷ "grow 1 2 3" ∷ "onfree 1 2" ∷ "onfree 1 2 3 4" ∷ "1000" ∷ [])
    ≡ replicate 17 Bad)
    -- spaces in front, behind and in pairs, a tab, a carriage return
    × (map line_for (" walk" ∷ "walk " ∷ "reserve  1000" ∷ "reserve 1000 " ∷ " " ∷ "onfree 1 2  3" ∷ "reserve\t1000" ∷ "walk\r" ∷ [])
    ≡ replicate 8 Bad)
    -- digits only, judged by their value: the largest word, the one past it, zeros in front
    × (map line_for ("reserve 1a" ∷ "reserve +1" ∷ "reserve -1" ∷ "reserve 1:" ∷ "reserve 1/" ∷ "reserve 18446744073709551616" ∷ "onactive 1 2 99999999999999999999" ∷ "grow 1 18446744073709551616" ∷ "grow 1 2x" ∷ [])
    ≡ replicate 9 Bad)
    × (map line_for ("reserve 18446744073709551615" ∷ "fuse 00018446744073709551615" ∷ "free 0" ∷ "free 007" ∷ [])
    ≡ Ask (Reserve 18446744073709551615) ∷ Fuse 18446744073709551615 ∷ Ask (Free 0) ∷ Ask (Free 7) ∷ [])
    -- lines of 200 and of 201 bytes
    × ((padded 191 ∷ padded 192 ∷ []) ≡ Ask (Reserve 1) ∷ Bad ∷ [])
    -- texts
    × ((reply_text 0 16448 7 ∷ clump_text 17472 15296 0 ∷ bad_text ∷ []) ≡ codes "0 16448 7\n" ∷ codes "17472 15296 0\n" ∷ codes "?\n" ∷ [])
    -- fuses: held over `walk` and a bad line, the later of two, used up by a request
    × (map (fuse_from longest) (("fuse 3" ∷ "walk" ∷ "what" ∷ []) ∷ ("fuse 3" ∷ "fuse 5" ∷ []) ∷ ("fuse 3" ∷ "free 0" ∷ []) ∷ ("fuse 3" ∷ "fuse x" ∷ []) ∷ [])
    ≡ 3 ∷ 5 ∷ longest ∷ 3 ∷ [])

examples : Examples
unfolding codes fields is_digit value_from number numbers same named commands command meaning line_of fuse_after digits decimal three_text bad_text
examples = (refl, refl, refl, refl, refl, refl, refl, refl, refl)
