-- The grammar, token by token: where a text stands, what may come next, and what that does.
use Rattle.std.specs.Prelude.{true, false, Option, Some, None}
use Rattle.veri_read.specs.declared.symbol.Symbol.{Symbol}
use Rattle.veri_read.specs.declared.symbol.Symbol.TheVariants as symbol
use Rattle.veri_read.specs.declared.literal.Kind.{Kind}
use Rattle.veri_read.specs.declared.literal.Kind.TheVariants as kind
use Rattle.veri_read.specs.declared.rules.Place.{Place}
use Rattle.veri_read.specs.declared.rules.Place.TheVariants as place
use Rattle.veri_read.specs.declared.rules.Act.{Act}
use Rattle.veri_read.specs.declared.rules.Act.TheVariants as act

-- where a text stands behind a token, and what the token does
abbrev pub Rule : Type 0
Rule = Option (Place × Act)

-- module NAME ( [NAME {, NAME}] ) ;
abbrev pub head_rule : Place → Symbol → Rule
head_rule place.Start symbol.Module = Some (place.ModuleName, act.Pass)
head_rule place.ModuleName symbol.Name = Some (place.PortsOpen, act.NameModule)
head_rule place.PortsOpen symbol.OpenParen = Some (place.FirstPort, act.Pass)
head_rule place.FirstPort symbol.Name = Some (place.PortEnd, act.ListPort)
head_rule place.FirstPort symbol.CloseParen = Some (place.HeadEnd, act.Pass)
head_rule place.PortEnd symbol.Comma = Some (place.NextPort, act.Pass)
head_rule place.PortEnd symbol.CloseParen = Some (place.HeadEnd, act.Pass)
head_rule place.NextPort symbol.Name = Some (place.PortEnd, act.ListPort)
head_rule place.HeadEnd symbol.Semicolon = Some (place.Declarations, act.Pass)
head_rule p s = None

-- {(input | output | inout | wire | reg) NAME {, NAME} ;}, and behind that {assign ..} [always ..] endmodule
abbrev pub declaration_rule : Place → Symbol → Rule
declaration_rule place.Declarations symbol.Input = Some (place.DeclaredName, (act.OfKind kind.Input))
declaration_rule place.Declarations symbol.Output = Some (place.DeclaredName, (act.OfKind kind.Output))
declaration_rule place.Declarations symbol.Inout = Some (place.DeclaredName, (act.OfKind kind.Inout))
declaration_rule place.Declarations symbol.Wire = Some (place.DeclaredName, (act.OfKind kind.Wire))
declaration_rule place.Declarations symbol.Reg = Some (place.DeclaredName, (act.OfKind kind.Reg))
declaration_rule place.DeclaredName symbol.Name = Some (place.DeclaredEnd, act.Declare)
declaration_rule place.DeclaredEnd symbol.Comma = Some (place.DeclaredName, act.Pass)
declaration_rule place.DeclaredEnd symbol.Semicolon = Some (place.Declarations, act.Pass)
declaration_rule place.Declarations symbol.Assign = Some (place.Target, act.EndDeclarations)
declaration_rule place.Declarations symbol.Always = Some (place.BlockAt, act.EndDeclarations)
declaration_rule place.Declarations symbol.EndModule = Some (place.Done, act.EndModule)
declaration_rule place.Assigns symbol.Assign = Some (place.Target, act.Pass)
declaration_rule place.Assigns symbol.Always = Some (place.BlockAt, act.Pass)
declaration_rule place.Assigns symbol.EndModule = Some (place.Done, act.EndModule)
declaration_rule p s = None

-- behind the first literal of an assign: a wire has `& literal`, a pad `? 1'bz : literal`, an output nothing more
abbrev pub target_rule : Kind → Symbol → Rule
target_rule kind.Wire symbol.And = Some (place.Second, act.Pass)
target_rule kind.Inout symbol.Question = Some (place.Floating, act.Pass)
target_rule kind.Output symbol.Semicolon = Some (place.Assigns, act.EndAssign)
target_rule p s = None

-- assign NAME = literal .. ; where a literal is a constant, a name, or `~` and a name
abbrev pub assign_rule : Place → Symbol → Rule
assign_rule place.Target symbol.Name = Some (place.Equal, act.BeginAssign)
assign_rule place.Equal symbol.Equal = Some (place.First, act.Pass)
assign_rule place.First symbol.Low = Some (place.FirstEnd, (act.Constant false))
assign_rule place.First symbol.High = Some (place.FirstEnd, (act.Constant true))
assign_rule place.First symbol.Not = Some (place.FirstName, act.Negate)
assign_rule place.First symbol.Name = Some (place.FirstEnd, act.Use)
assign_rule place.FirstName symbol.Name = Some (place.FirstEnd, act.Use)
assign_rule place.Floating symbol.Floating = Some (place.Colon, act.Pass)
assign_rule place.Colon symbol.Colon = Some (place.Second, act.Pass)
assign_rule place.Second symbol.Low = Some (place.SecondEnd, (act.Constant false))
assign_rule place.Second symbol.High = Some (place.SecondEnd, (act.Constant true))
assign_rule place.Second symbol.Not = Some (place.SecondName, act.Negate)
assign_rule place.Second symbol.Name = Some (place.SecondEnd, act.Use)
assign_rule place.SecondName symbol.Name = Some (place.SecondEnd, act.Use)
assign_rule place.SecondEnd symbol.Semicolon = Some (place.Assigns, act.EndAssign)
assign_rule p s = None

-- always @ ( posedge NAME ) begin
abbrev pub clock_rule : Place → Symbol → Rule
clock_rule place.BlockAt symbol.At = Some (place.BlockOpen, act.Pass)
clock_rule place.BlockOpen symbol.OpenParen = Some (place.Edge, act.Pass)
clock_rule place.Edge symbol.Posedge = Some (place.Clock, act.Pass)
clock_rule place.Clock symbol.Name = Some (place.BlockClose, act.NameClock)
clock_rule place.BlockClose symbol.CloseParen = Some (place.BlockBegin, act.Pass)
clock_rule place.BlockBegin symbol.Begin = Some (place.Registers, act.Pass)
clock_rule p s = None

-- {NAME <= literal ;} end endmodule
abbrev pub next_rule : Place → Symbol → Rule
next_rule place.Registers symbol.Name = Some (place.Arrow, act.BeginNext)
next_rule place.Registers symbol.End = Some (place.BlockDone, act.Pass)
next_rule place.Arrow symbol.Arrow = Some (place.Next, act.Pass)
next_rule place.Next symbol.Low = Some (place.NextEnd, (act.Constant false))
next_rule place.Next symbol.High = Some (place.NextEnd, (act.Constant true))
next_rule place.Next symbol.Not = Some (place.NextName, act.Negate)
next_rule place.Next symbol.Name = Some (place.NextEnd, act.UseNext)
next_rule place.NextName symbol.Name = Some (place.NextEnd, act.UseNext)
next_rule place.NextEnd symbol.Semicolon = Some (place.Registers, act.EndNext)
next_rule place.BlockDone symbol.EndModule = Some (place.Done, act.EndModule)
next_rule place.Done symbol.Nothing = Some (place.Done, act.Pass)
next_rule p s = None

-- `kind` is that of the last target of an assign
abbrev pub rule : Kind → Place → Symbol → Rule
rule k place.Start s = head_rule place.Start s
rule k place.ModuleName s = head_rule place.ModuleName s
rule k place.PortsOpen s = head_rule place.PortsOpen s
rule k place.FirstPort s = head_rule place.FirstPort s
rule k place.PortEnd s = head_rule place.PortEnd s
rule k place.NextPort s = head_rule place.NextPort s
rule k place.HeadEnd s = head_rule place.HeadEnd s
rule k place.Declarations s = declaration_rule place.Declarations s
rule k place.DeclaredName s = declaration_rule place.DeclaredName s
rule k place.DeclaredEnd s = declaration_rule place.DeclaredEnd s
rule k place.Assigns s = declaration_rule place.Assigns s
rule k place.FirstEnd s = target_rule k s
rule k place.Target s = assign_rule place.Target s
rule k place.Equal s = assign_rule place.Equal s
rule k place.First s = assign_rule place.First s
rule k place.FirstName s = assign_rule place.FirstName s
rule k place.Floating s = assign_rule place.Floating s
rule k place.Colon s = assign_rule place.Colon s
rule k place.Second s = assign_rule place.Second s
rule k place.SecondName s = assign_rule place.SecondName s
rule k place.SecondEnd s = assign_rule place.SecondEnd s
rule k place.BlockAt s = clock_rule place.BlockAt s
rule k place.BlockOpen s = clock_rule place.BlockOpen s
rule k place.Edge s = clock_rule place.Edge s
rule k place.Clock s = clock_rule place.Clock s
rule k place.BlockClose s = clock_rule place.BlockClose s
rule k place.BlockBegin s = clock_rule place.BlockBegin s
rule k p s = next_rule p s
