-- The replies of the face: nine numbers in the run, and what each exit of a function gives. Assumes nothing.
use mathlib.Core.Path.{◌≡◌, ap, ◌∙◌}
use mathlib.Core.List.{List}
use Prim.Native.Nat.{ℕ, ◌≤◌, ◌<◌}
use lib.ListN.{length}
use borrow.Author.Tests.{lt-ltb, le-ltb}
use Rattle.values.specs.Readings.{read_ip, read_as, read_both}
use Rattle.values.specs.Papers.{paper}
use Rattle.writer.specs.Writer.{Writing, write}
use Rattle.writer.specs.Papers as writer
use Rattle.path.specs.Papers as replies
use Rattle.path.specs.Paths as path
use Rattle.face.specs.Face.{nine, part_of, parted, told, too_short, given, read_ip_face, read_as_face, write_face, path_face, fault_face, numbers}
use Rattle.face.specs.declared.Nine.{Nine}
use Rattle.path.specs.Replies.{Reply}
use Rattle.values.specs.Readings.{Reading}

-- THE EXITS

-- a reply run that is too short
short_by : {A : Type 0} (r : ℕ) (p : List ℕ) (a b : A) (reply : List ℕ) → length reply < nine → r ≡ too_short → ◌≡◌ {A = ℕ × A × List ℕ} (r, a, reply) (given p a b reply)
short_by r p a b reply h e = rw (lt-ltb (length reply) nine h, e)

-- and one that is not
told_by : {A : Type 0} (r : ℕ) (p : List ℕ) (a b : A) (reply reply' : List ℕ) → nine ≤ length reply → ◌≡◌ {A = ℕ × List ℕ} (r, reply') (told p reply) → ◌≡◌ {A = ℕ × A × List ℕ} (r, b, reply') (given p a b reply)
told_by {A} r p a b reply reply' h e = rw (le-ltb (length reply) nine h) (ap (λ (q : ℕ × List ℕ). (q.0, b, q.1)) e)

-- a library's answer and the buffers that it leaves, in the nine numbers that were put
answer_by : {A B : Type 0} (f : B → List ℕ) (l : B × A) (x : B) (a b : A) (r : ℕ) (n : Nine) (reply reply' : List ℕ) → nine ≤ length reply → ◌≡◌ {A = B × A} (x, b) l → numbers n ≡ f x
    → ◌≡◌ {A = ℕ × List ℕ} (r, reply') (told (numbers n) reply) → ◌≡◌ {A = ℕ × A × List ℕ} (r, b, reply') (given (f l.0) a l.1 reply)
answer_by {A} {B} f l x a b r n reply reply' h i j e = told_by r (f x) a b reply reply' h (e ∙ ap (λ (p : List ℕ). told p reply) j) ∙ ap (λ (q : B × A). given (f q.0) a q.1 reply) i

module _ (r : ℕ) (reply : List ℕ) (h : length reply < nine) (e : r ≡ too_short) where
  pub ip_short : (v t : List ℕ) → ◌≡◌ {A = ℕ × List ℕ × List ℕ} (r, t, reply) (read_ip_face v t reply)
  unfolding read_ip_face
  ip_short v t = short_by r (paper (read_ip v t).0) t (read_ip v t).1 reply h e

  pub as_short : (v t : List ℕ) → ◌≡◌ {A = ℕ × List ℕ × List ℕ} (r, t, reply) (read_as_face v t reply)
  unfolding read_as_face
  as_short v t = short_by r (paper (read_as v t).0) t (read_as v t).1 reply h e

  pub write_short : (kind : ℕ) (rows out : List ℕ) → ◌≡◌ {A = ℕ × List ℕ × List ℕ} (r, out, reply) (write_face kind rows out reply)
  unfolding write_face
  write_short kind rows out = short_by r (writer.paper (write kind rows out).0) out (write kind rows out).1 reply h e

  pub path_short : (b first second : List ℕ) → ◌≡◌ {A = ℕ × (List ℕ × List ℕ) × List ℕ} (r, (first, second), reply) (path_face b first second reply)
  unfolding path_face
  path_short b first second = short_by r (replies.paper (path.check b first second).0) (first, second) ((path.check b first second).1, (path.check b first second).2) reply h e

  pub fault_short : (ip ids t : List ℕ) → ◌≡◌ {A = ℕ × List ℕ × List ℕ} (r, t, reply) (fault_face ip ids t reply)
  unfolding fault_face
  fault_short ip ids t = short_by r (parted (paper (read_both ip ids t).0) (part_of (length ip) (length ids) (read_both ip ids t).0)) t (read_both ip ids t).1 reply h e

module _ (r : ℕ) (n : Nine) (reply reply' : List ℕ) (h : nine ≤ length reply) (e : ◌≡◌ {A = ℕ × List ℕ} (r, reply') (told (numbers n) reply)) where
  pub ip_told : (v t t' : List ℕ) (x : Reading) → ◌≡◌ {A = Reading × List ℕ} (x, t') (read_ip v t) → numbers n ≡ paper x → ◌≡◌ {A = ℕ × List ℕ × List ℕ} (r, t', reply') (read_ip_face v t reply)
  unfolding read_ip_face
  ip_told v t t' x i j = answer_by paper (read_ip v t) x t t' r n reply reply' h i j e

  pub as_told : (v t t' : List ℕ) (x : Reading) → ◌≡◌ {A = Reading × List ℕ} (x, t') (read_as v t) → numbers n ≡ paper x → ◌≡◌ {A = ℕ × List ℕ × List ℕ} (r, t', reply') (read_as_face v t reply)
  unfolding read_as_face
  as_told v t t' x i j = answer_by paper (read_as v t) x t t' r n reply reply' h i j e

  pub write_told : (kind : ℕ) (rows out out' : List ℕ) (x : Writing) → ◌≡◌ {A = Writing × List ℕ} (x, out') (write kind rows out) → numbers n ≡ writer.paper x → ◌≡◌ {A = ℕ × List ℕ × List ℕ} (r, out', reply') (write_face kind rows out reply)
  unfolding write_face
  write_told kind rows out out' x i j = answer_by writer.paper (write kind rows out) x out out' r n reply reply' h i j e

  pub path_told : (b first second first' second' : List ℕ) (x : Reply) → ◌≡◌ {A = path.Left} (x, first', second') (path.check b first second) → numbers n ≡ replies.paper x
      → ◌≡◌ {A = ℕ × (List ℕ × List ℕ) × List ℕ} (r, (first', second'), reply') (path_face b first second reply)
  unfolding path_face
  path_told b first second first' second' x i j =
      answer_by {A = List ℕ × List ℕ} {B = Reply} replies.paper ((path.check b first second).0, ((path.check b first second).1, (path.check b first second).2)) x (first, second) (first', second') r n reply reply' h
      (ap (λ (l : path.Left). (l.0, (l.1, l.2))) i) j e

  pub fault_told : (ip ids t t' : List ℕ) (x : Reading) → ◌≡◌ {A = Reading × List ℕ} (x, t') (read_both ip ids t) → numbers n ≡ parted (paper x) (part_of (length ip) (length ids) x)
      → ◌≡◌ {A = ℕ × List ℕ × List ℕ} (r, t', reply') (fault_face ip ids t reply)
  unfolding fault_face
  fault_told ip ids t t' x i j = answer_by (λ (y : Reading). parted (paper y) (part_of (length ip) (length ids) y)) (read_both ip ids t) x t t' r n reply reply' h i j e
