-- What the code says of an element: where its contents start and where they end. `seen` is what `head` says of it (proofs/laws/Heads: `opening_head`).
use Rattle.std.specs.Prelude.{Result, Ok, Err, ℕ, ◌+◌, ◌-◌, ◌*◌, List, length, get_or, take, drop, ltb, eqb}
use Rattle.number.specs.Tests.{pick}
use Rattle.number.specs.declared.refusal.Refusal.{Refusal}
use Rattle.number.specs.declared.refusal.Refusal.TheVariants as refusal
use Rattle.der.specs.Head.{Head, found, fault}

-- where the contents start and where they end; or refusal 2 or 3
abbrev pub Opening : Type 0
Opening = Result (ℕ × ℕ) Refusal

abbrev pub faulty : Opening
faulty = Err refusal.Element

unfoldable pub fitted : ℕ → ℕ → ℕ → Opening
fitted len k n = pick (ltb (len - k) n) faulty (Ok (k, (k + n)))

unfoldable pub length_of : List ℕ → Opening
length_of s =
    pick (ltb (length s) 2) faulty
    (pick (ltb (get_or s 1 0) 0x80) (fitted (length s) 2 (get_or s 1 0))
    (pick (eqb (get_or s 1 0) 0x81)
    (pick (ltb (length s) 3) faulty
    (pick (ltb (get_or s 2 0) 0x80) faulty
    (fitted (length s) 3 (get_or s 2 0))))
    (pick (eqb (get_or s 1 0) 0x82)
    (pick (ltb (length s) 4) faulty
    (pick (ltb (get_or s 2 0 * 256 + get_or s 3 0) 256) faulty
    (fitted (length s) 4 (get_or s 2 0 * 256 + get_or s 3 0))))
    faulty)))

-- "At one element: tag, length, contents": the tag is judged first
unfoldable pub opening_of : ℕ → List ℕ → Opening
opening_of tag s = pick (eqb (length s) 0) faulty (pick (eqb (get_or s 0 0) tag) (length_of s) (Err refusal.Tag))

abbrev pub seen : List ℕ → Opening → Head
seen s (Ok (k, e)) = found (take (e - k) (drop k s)) (drop e s)
seen s (Err r) = fault
