-- How much of a tag is read when a request is looked for in it, and what the intersection of two tags costs.
use Rattle.std.specs.Prelude.{ℕ, ◌+◌, ◌*◌, Option, Some, None, length, min, if◌then◌else◌}
use Rattle.spki_tag.specs.Tag.{Tag, Tags, Limit, star, string, prefix, range, list, set, none, more, nodes, nodes_all, contains, some_contains}
use Rattle.spki_tag.specs.Request.{Request, Requests}
use Rattle.spki_tag.specs.Request as request

-- the octets of a limit
abbrev pub limit_octets : Option Limit → ℕ
limit_octets None = 0
limit_octets (Some limit) = length limit.octets

abbrev mutual
  -- the number of tags in a tag, and the octets of their strings
  pub weight : Tag → ℕ
  weight star = 1
  weight (string octets) = 1 + length octets
  weight (prefix octets) = 1 + length octets
  weight (range ordering low up) = 1 + limit_octets low + limit_octets up
  weight (list head further) = 1 + length head + weight_all further
  weight (set members) = 1 + weight_all members

  -- the sum of the weights of some tags
  pub weight_all : Tags → ℕ
  weight_all none = 0
  weight_all (more t ts) = weight t + weight_all ts

abbrev mutual
  -- The weight of what has to be tested to say whether a tag contains a request, in whichever order its members are tested: the tag itself; the
  -- octets of its strings, limits or head, if they are compared; each member of a list that contains the request; of a set that contains it the
  -- lightest member that does; and each member of a set that does not.
  pub tested_weight : Tag → Request → ℕ
  tested_weight star g = 1
  tested_weight (string octets) (request.string requested) = 1 + length octets
  tested_weight (string octets) (request.list head further) = 1
  tested_weight (prefix octets) (request.string requested) = 1 + length octets
  tested_weight (prefix octets) (request.list head further) = 1
  tested_weight (range ordering low up) (request.string requested) = 1 + limit_octets low + limit_octets up
  tested_weight (range ordering low up) (request.list head further) = 1
  tested_weight (list head further) (request.string requested) = 1
  tested_weight (list head further) (request.list requested others) =
      1 + length head + (if contains (list head further) (request.list requested others) then tested_each further others else 0)
  tested_weight (set members) g = 1 + (if some_contains members g then tested_least members g else tested_all members g)

  -- the sum for several tags, each with the request in its place
  pub tested_each : Tags → Requests → ℕ
  tested_each none gs = 0
  tested_each (more t ts) request.none = 0
  tested_each (more t ts) (request.more g gs) = tested_weight t g + tested_each ts gs

  -- the sum for several tags, all with the same request
  pub tested_all : Tags → Request → ℕ
  tested_all none g = 0
  tested_all (more t ts) g = tested_weight t g + tested_all ts g

  -- the least of these weights of those tags that contain the request
  pub tested_least : Tags → Request → ℕ
  tested_least none g = 0
  tested_least (more t ts) g =
      if contains t g
      then (if some_contains ts g then min (tested_weight t g) (tested_least ts g) else tested_weight t g)
      else tested_least ts g

abbrev mutual
  -- the number of prefixes and ranges in a tag
  pub ranges : Tag → ℕ
  ranges star = 0
  ranges (string octets) = 0
  ranges (prefix octets) = 1
  ranges (range ordering low up) = 1
  ranges (list head further) = ranges_all further
  ranges (set members) = ranges_all members

  -- the same for some tags
  pub ranges_all : Tags → ℕ
  ranges_all none = 0
  ranges_all (more t ts) = ranges t + ranges_all ts

-- What a node costs that is intersected with a tag: 15 for each node of the tag, one for each of its tags, and one for each octet of
-- their strings; and 48 for each prefix and range, since two of them make a new range.
abbrev pub node_cost : Tag → ℕ
node_cost t = 15 * nodes t + 48 * ranges t + weight t

-- the same for some tags
abbrev pub node_costs : Tags → ℕ
node_costs ts = 15 * nodes_all ts + 48 * ranges_all ts + weight_all ts

-- the cost of the intersection of two tags: that of each node of the first with the second
abbrev pub meet_cost : Tag → Tag → ℕ
meet_cost one other = nodes one * node_cost other
