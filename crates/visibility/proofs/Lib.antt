mod Edges
