-- The name of a file that is written beside another one.
use Rattle.std.specs.Prelude.{◌≡◌, ◌≢◌, ◌<◌, ◌≤◌, ◌⊎◌, ◌+◌, ◌/◌, ◌%◌, ◌==◌, ◌++◌, ◌∷◌, [], codes}
use Rattle.std.specs.Prelude.{if◌then◌else◌, length, nat_lt, ℕ, List, take}
use Rattle.std.specs.Str.{NoCharPasses}

-- what ends the name of a file while it is written: `.new`
abbrev pub new_suffix : List ℕ
new_suffix = codes ".new"

-- what comes before `.new` in a name: nothing, or a full stop and a number of one digit or two, as `.7`
abbrev pub mark_of : ℕ → List ℕ
mark_of number = if number == 0 then [] else if nat_lt number 10 then 46 ∷ (48 + number) ∷ [] else 46 ∷ (48 + number / 10) ∷ (48 + number % 10) ∷ []

-- no character of a name is a slash
abbrev pub HasNoSlash : List ℕ → Type 0
HasNoSlash name = NoCharPasses (λ c. c == 47) name

-- what is kept of a name that `more` bytes follow: a front, so that both have no more than the 255 bytes that a name
-- may have. It is all of the name, if that is short enough, and otherwise so little that both are shorter than the
-- name
pub record KeepsFront (more : ℕ) (name kept : List ℕ) : Type 0 where
  pub front : kept ≡ take (length kept) name
  pub room : length kept + more ≤ 255
  pub whole : length name + more ≤ 255 → kept ≡ name
  pub other : (kept ≡ name) ⊎ (length kept + more < length name)

-- a path in the same folder as another one: it has what is kept of that one's last name, and the suffix. It is never
-- the same path
pub record IsBeside (path beside : List ℕ) : Type 0 where
  pub folder : List ℕ
  pub name : List ℕ
  pub kept : List ℕ
  pub number : ℕ
  pub whole : path ≡ folder ++ name
  pub last : HasNoSlash name
  pub few : number < 100
  pub keeps : KeepsFront (length (mark_of number ++ new_suffix)) name kept
  pub is : beside ≡ folder ++ (kept ++ (mark_of number ++ new_suffix))
  pub other : beside ≢ path

-- a path is beside another one (`IsBeside`), as a fact with one proof
abbrev pub LiesBeside : List ℕ → List ℕ → Type 0
LiesBeside path beside = ∥ IsBeside path beside ∥₁

-- a path is that of the folder that the file at another path lies in: what comes before that one's last slash; or a
-- slash alone, if nothing does; or a full stop, if that one has no slash
pub record IsFolderOf (path folder : List ℕ) : Type 0 where
  pub name : List ℕ
  pub last : HasNoSlash name
  pub is : (path ≡ folder ++ codes "/" ++ name) × (0 < length folder) ⊎ (path ≡ codes "/" ++ name) × (folder ≡ codes "/") ⊎ (path ≡ name) × (folder ≡ codes ".")

-- the file at a path lies in the folder at this one (`IsFolderOf`), as a fact with one proof
abbrev pub LiesIn : List ℕ → List ℕ → Type 0
LiesIn path folder = ∥ IsFolderOf path folder ∥₁
