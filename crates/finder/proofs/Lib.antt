mod Boards
