-- The C face: the reply of each library function as nine numbers in a lent run, and the first of them as the result.
use Rattle.std.specs.Prelude.{ℕ, List, [], ◌∷◌, ◌++◌, length, get_or, drop, ltb}
use Rattle.number.specs.Tests.{pick}
use Rattle.number.specs.Refusal.{number_of}
use Rattle.number.specs.declared.refusal.Refusal.TheVariants as refusal
use Rattle.values.specs.Limits.{ip_extension, as_extension}
use Rattle.values.specs.Readings.{read_ip, read_as, read_both}
use Rattle.values.specs.Papers.{paper}
use Rattle.values.specs.Parted.{chosen}
use Rattle.writer.specs.Writer.{write}
use Rattle.writer.specs.Papers as writer
use Rattle.path.specs.Papers as path
use Rattle.path.specs.Paths.{check}
use Rattle.face.specs.declared.Nine.{Nine}
use Rattle.values.specs.Readings.{Reading}

-- how many numbers a reply has
abbrev pub nine : ℕ
nine = 9

-- "the value at fault (1 IP, 2 AS), the start and the end of the part", "1, 0, 0 for the empty part at the start of the IP value"; of values of so many octets
abbrev pub part_of : ℕ → ℕ → Reading → ℕ × ℕ × ℕ
part_of ip ids r = chosen r (ip_extension, 0, 0) (λ k. (ip_extension, k, ip)) (λ k. (as_extension, k, ids))

-- "into the reply's space, upper and lower fields"; "its other fields are those of the reading"
abbrev pub parted : List ℕ → ℕ × ℕ × ℕ → List ℕ
parted p q = get_or p 0 0 ∷ get_or p 1 0 ∷ get_or p 2 0 ∷ get_or p 3 0 ∷ q.0 ∷ q.1 ∷ q.2 ∷ get_or p 7 0 ∷ get_or p 8 0 ∷ []

-- the nine numbers at the start of the run, and the first of them
abbrev pub told : List ℕ → List ℕ → ℕ × List ℕ
told p reply = (get_or p 0 0, p ++ drop nine reply)

-- "A reply run shorter than nine: 16 is returned and nothing at all changes."
abbrev pub too_short : ℕ
too_short = number_of refusal.TableShort

-- a reply p, and other buffers that were a and are b
abbrev pub given : {A : Type 0} → List ℕ → A → A → List ℕ → ℕ × A × List ℕ
given p a b reply = pick (ltb (length reply) nine) (too_short, a, reply) ((told p reply).0, b, (told p reply).1)

unfoldable pub read_ip_face : List ℕ → List ℕ → List ℕ → ℕ × List ℕ × List ℕ
read_ip_face v t reply = given (paper (read_ip v t).0) t (read_ip v t).1 reply

unfoldable pub read_as_face : List ℕ → List ℕ → List ℕ → ℕ × List ℕ × List ℕ
read_as_face v t reply = given (paper (read_as v t).0) t (read_as v t).1 reply

unfoldable pub write_face : ℕ → List ℕ → List ℕ → List ℕ → ℕ × List ℕ × List ℕ
write_face kind rows out reply = given (writer.paper (write kind rows out).0) out (write kind rows out).1 reply

unfoldable pub path_face : List ℕ → List ℕ → List ℕ → List ℕ → ℕ × (List ℕ × List ℕ) × List ℕ
path_face b first second reply = given (path.paper (check b first second).0) (first, second) ((check b first second).1, (check b first second).2) reply

unfoldable pub fault_face : List ℕ → List ℕ → List ℕ → List ℕ → ℕ × List ℕ × List ℕ
fault_face ip ids t reply = given (parted (paper (read_both ip ids t).0) (part_of (length ip) (length ids) (read_both ip ids t).0)) t (read_both ip ids t).1 reply

-- WHAT THE CODE SAYS

abbrev pub numbers : Nine → List ℕ
numbers n = n.number ∷ n.certificate ∷ n.extension ∷ n.place ∷ n.space ∷ n.upper ∷ n.lower ∷ n.rows ∷ n.pairs ∷ []
